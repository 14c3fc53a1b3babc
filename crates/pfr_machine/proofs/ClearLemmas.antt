-- What the cancellation of a key does to the store, and to a platform, one of whose banks is in work.
use Rattle.std.proofs.Common.{◌≡◌, ◌∙◌, refl, sym, ap, subst, ℕ, Bool, true, false, not, List, [], length, Option, Some, None, Result, Ok, Err}
use Rattle.pfr_flash.specs.FlashState.{FlashState, now}
use Rattle.pfr_flash.specs.FuseRow.{is_cleared}
use Rattle.pfr_flash.specs.Judging.{◌>>◌, require, told_as}
use Rattle.pfr_flash.specs.Operation.{Operation}
use Rattle.pfr_flash.specs.Plan.{Follows}
use Rattle.pfr_flash.specs.declared.flash.FlashFail.{FlashFail}
use Rattle.pfr_flash.specs.declared.names.Bank.{Bank}
use Rattle.pfr_flash.specs.declared.names.Bank.TheVariants as bank
use Rattle.pfr_flash.specs.declared.names.Device.TheVariants as device
use Rattle.pfr_fuses.specs.Changes.{cancellation}
use Rattle.pfr_fuses.specs.FusesState.{FusesState, row_of}
use Rattle.pfr_capsule.specs.CapsuleState.{CapsuleState}
use Rattle.pfr_cert.specs.Answer.{cert_failure}
use Rattle.pfr_cert.specs.Applying.{Applies, is_in_use, judge_apply}
use Rattle.pfr_cert.specs.Judge.{judge_cert}
use Rattle.pfr_cert.specs.declared.cert.Cert.{Cert}
use Rattle.pfr_cert.specs.declared.fail.CertFail.{CertFail}
use Rattle.pfr_cert.specs.declared.fail.CertFail.TheVariants as causes
use Rattle.pfr_engine.specs.Acceptance.{Acceptance}
use Rattle.pfr_story.specs.Goes.{Goes, Ran}
use Rattle.pfr_story.specs.UpdatePlans.{judged_cert}
use Rattle.pfr_story.specs.World.{World, story_of}
use Rattle.pfr_story.proofs.Lift.{at_device}
use Rattle.pfr_story.proofs.Sequence.{Ran-refl}
use Rattle.pfr_machine.specs.Cancelling.{Clears, cleared_by}
use Rattle.pfr_machine.specs.Worlds.{Latches, desk_world}
use Rattle.pfr_machine.specs.declared.board.Board.{Board}
use Rattle.pfr_machine.proofs.DeskLemmas.{image_mine}
use Rattle.pfr_machine.proofs.LogLemmas.{length_stays}
use Rattle.pfr_machine.proofs.StoredLemmas.{stored_goes}

-- ---- why a key can't be cancelled is no failure of a device
by_tests : (used cleared : Bool) (cause : CertFail) → (require causes.KeyInUse used >> require causes.AlreadyCancelled cleared) ≡ Err cause → cert_failure cause ≡ None
by_tests true true cause e = absurd cc
by_tests true false cause e = let is : causes.AlreadyCancelled ≡ cause = cc in ap cert_failure (sym is)
by_tests false cleared cause e = let is : causes.KeyInUse ≡ cause = cc in ap cert_failure (sym is)

kept_found : (fuses : FusesState) (cert : Cert) (recovery : Option CapsuleState) (cause : CertFail) → judge_apply fuses cert recovery ≡ Err cause → cert_failure cause ≡ None
unfolding judge_apply
kept_found fuses cert recovery cause e = by_tests (not (is_in_use recovery cert)) (not (is_cleared (row_of fuses cert.ty) cert.id)) cause e

-- ---- the store failed
follows_failed : {A B : Type 0} (plan : List Operation) (old new : FlashState) (fail : FlashFail) → Follows {A = A} plan old new (Err fail) → Follows {A = B} plan old new (Err fail)
follows_failed plan old new fail h = record { ok = tt; on = tt; whole = tt; part = h.part; failed = h.failed; still = h.still; worked = h.worked }

by_done : (cert : Cert) (why : CertFail) (old new : FlashState) (fail : FlashFail) → cert_failure why ≡ Some fail → (done : Result (Unit {0}) FlashFail) → Err why ≡ told_as causes.Flash done → Follows (cancellation cert.ty cert.id) old new done
    → Follows {A = Result (Unit {0}) CertFail} (cancellation cert.ty cert.id) old new (Err fail)
by_done cert why old new fail f (Ok x) e h = absurd cc
by_done cert why old new fail f (Err other) e h =
    let is : why ≡ causes.Flash other = cc in
    let told : Some other ≡ Some fail = sym (ap cert_failure is) ∙ f in
    let one : other ≡ fail = cc in
    follows_failed (cancellation cert.ty cert.id) old new fail (subst (λ (x : FlashFail). Follows {A = Unit {0}} (cancellation cert.ty cert.id) old new (Err x)) one h)

pub clears_failed : (cert : Cert) (fuses : FusesState) (recovery : Option CapsuleState) (why : CertFail) (old new : FlashState) (fail : FlashFail) → cert_failure why ≡ Some fail
    → Applies (cancellation cert.ty cert.id) (judge_apply fuses cert recovery) old new (Err why) → Clears cert (judge_apply fuses cert recovery) old new (Err fail)
clears_failed cert fuses recovery why old new fail f h = by_judged (judge_apply fuses cert recovery) refl h
  where
    by_judged : (judged : Result (Unit {0}) CertFail) → judge_apply fuses cert recovery ≡ judged → Applies (cancellation cert.ty cert.id) judged old new (Err why) → Clears cert judged old new (Err fail)
    by_judged (Ok tt) e h = by_done cert why old new fail f h.0 h.1 h.2
    by_judged (Err cause) e h =
        let is : why ≡ cause = (let said = h.0 in cc) in
        let none : None ≡ Some fail = sym (kept_found fuses cert recovery cause e) ∙ (sym (ap cert_failure is) ∙ f) in
        absurd cc

-- ---- the store keeps its length
pub applies_length : (plan : List Operation) (judged : Result (Unit {0}) CertFail) (old new : FlashState) (result : Result (Unit {0}) CertFail) → Applies plan judged old new result → length (now new) ≡ length (now old)
applies_length plan (Ok tt) old new result h = length_stays old new h.2.worked.moved.start
applies_length plan (Err cause) old new result h = ap (λ (d : FlashState). length (now d)) h.1

-- ---- the store of a desk
module _ {F : Type 0} (b : Bank) (mine other nv later : FlashState) (latches : Latches) (board : Board F) (held : F) (on : nv.powered ≡ true) where
  same_desk : desk_world b mine other nv latches (record board { nv = held }) ≡ desk_world b mine other nv latches board
  same_desk = by_bank b
    where
      by_bank : (b : Bank) → desk_world b mine other nv latches (record board { nv = held }) ≡ desk_world b mine other nv latches board
      by_bank bank.Bmc = refl
      by_bank bank.Pch = refl

  uncalled : later ≡ nv → Ran [] (desk_world b mine other nv latches board) (desk_world b mine other later latches (record board { nv = held }))
  uncalled e =
      subst (λ (w : World). Ran [] (desk_world b mine other nv latches board) w) (sym (ap (λ (d : FlashState). desk_world b mine other d latches (record board { nv = held })) e ∙ same_desk)) (Ran-refl (desk_world b mine other nv latches board))

  pub cleared_goes : (cert : Cert) (judged : Result (Unit {0}) CertFail) (r : Result (Result (Unit {0}) CertFail) FlashFail) → Clears cert judged nv later r
      → Goes (cleared_by cert judged) (desk_world b mine other nv latches board) (desk_world b mine other later latches (record board { nv = held })) (at_device device.Nv r)
  cleared_goes cert (Ok free) r h = stored_goes b mine other nv later latches board held on (λ (image : List ℕ). cancellation cert.ty cert.id) r h
  cleared_goes cert (Err cause) r h =
      subst (λ (x : Result (Result (Unit {0}) CertFail) FlashFail). Goes (cleared_by cert (Err cause)) (desk_world b mine other nv latches board) (desk_world b mine other later latches (record board { nv = held })) (at_device device.Nv x))
      (sym h.0) (uncalled h.1)

-- ---- a certificate that was read through a loan of the flash, as it is judged at the desk
pub cert_here : {F : Type 0} (b : Bank) (mine read other nv : FlashState) (latches : Latches) (board : Board F) (fuses : FusesState) (accepts : Acceptance) (found : Result Cert CertFail) → read ≡ mine → judge_cert b (now read) fuses accepts ≡ found
    → found ≡ judged_cert accepts b fuses (story_of (desk_world b mine other nv latches board))
cert_here b mine read other nv latches board fuses accepts found same is =
    sym is ∙ (ap (λ (d : FlashState). judge_cert b (now d) fuses accepts) same ∙ ap (λ (image : List ℕ). judge_cert b image fuses accepts) (sym (image_mine b mine other nv latches board)))
