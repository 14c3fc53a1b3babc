-- What calls of lower crates do, as what the platform does.
use Rattle.std.proofs.Common.{◌≡◌, ◌≢◌, ◌∙◌, ℕ, refl, sym, ap, subst, true, false, List, [], ◌∷◌, ◌++◌, append_assoc, ◌⊎◌, inl, inr, Result, Ok, Err, Some}
use Rattle.std.proofs.lemmas.List.{append-nil}
use Rattle.std.proofs.lemmas.Bool.{cases_Bool}
use Rattle.pfr_flash.specs.Operation.{Operation, play, IsTorn}
use Rattle.pfr_flash.specs.FlashState.{FlashState, now}
use Rattle.pfr_flash.specs.Moved.{Moved, Worked, was_done}
use Rattle.pfr_flash.specs.Reading.{EndsAt, failed_by}
use Rattle.pfr_flash.specs.Plan.{Follows}
use Rattle.pfr_flash.specs.declared.flash.FlashFail.{FlashFail}
use Rattle.pfr_flash.specs.declared.flash.FlashFail.TheVariants.{Fault, Lost}
use Rattle.pfr_flash.specs.declared.names.Bank.{Bank}
use Rattle.pfr_flash.specs.declared.names.Bank.TheVariants as bank
use Rattle.pfr_flash.specs.declared.names.Counts.{Counts}
use Rattle.pfr_flash.specs.declared.names.Device.{Device}
use Rattle.pfr_flash.specs.declared.names.Device.TheVariants as device
use Rattle.pfr_flash.proofs.MovedLemmas.{Moved-refl}
use Rattle.pfr_flash.proofs.PlayLemmas.{play-append}
use Rattle.pfr_flash.proofs.StateLemmas.{Moved-power, Worked-lost}
use Rattle.pfr_flash.proofs.FollowsLemmas.{Follows-reads}
use Rattle.pfr_strokes.specs.Deeds.{Deed, Asks as AsksSide, Does as DoesSide, called as called_side, side_ops, FailedAt as SideFailedAt, asking as side_asking, unbegun as side_unbegun, torn as side_torn, IsDeedCut}
use Rattle.pfr_strokes.specs.Passes.{Pair, at_side, other_side, Did, DidAll, Failed, StoppedAt, Passes}
use Rattle.pfr_strokes.specs.declared.side.Side.{Side}
use Rattle.pfr_strokes.specs.declared.side.Side.TheVariants as side
use Rattle.pfr_strokes.specs.declared.side.CopyFail.{CopyFail}
use Rattle.pfr_strokes.specs.declared.side.CopyFail.TheVariants as fails
use Rattle.pfr_strokes.proofs.PassesLemmas.{Did-ops, by_side, called_did, called_stopped}
use Rattle.pfr_report.specs.declared.note.What.{What}
use Rattle.pfr_story.specs.Guards.{guards_after}
use Rattle.pfr_story.specs.Story.{Story, Move, Says, Does, after, operated, image_at, device_of, other_bank, counts_of, called, FailedAt, asking, unbegun, torn, IsCut}
use Rattle.pfr_story.specs.Deeds.{device_at, deed_move, deed_moves}
use Rattle.pfr_story.specs.World.{World, story_of, state_at, AllMoved, NoneFailed, NoneLost, Caused}
use Rattle.pfr_story.specs.Goes.{Ran, Stopped, Goes}
use Rattle.pfr_story.specs.declared.stop.Stop.{Stop}

-- ---- deeds as moves of a story
-- the story once the bank's device and the store did these operations
abbrev pub did_both : Bank → List Operation → List Operation → Story → Story
did_both bank.Bmc mine store story = record story { bmc = record { start = story.bmc.start; ops = story.bmc.ops ++ mine }; nv = record { start = story.nv.start; ops = story.nv.ops ++ store } }
did_both bank.Pch mine store story = record story { pch = record { start = story.pch.start; ops = story.pch.ops ++ mine }; nv = record { start = story.nv.start; ops = story.nv.ops ++ store } }

did_none : (b : Bank) (story : Story) → did_both b [] [] story ≡ story
did_none bank.Bmc story =
    ap (λ (ops : List Operation). record story { bmc = record { start = story.bmc.start; ops = ops }; nv = record { start = story.nv.start; ops = story.nv.ops ++ [] } }) (append-nil story.bmc.ops)
    ∙ ap (λ (ops : List Operation). record story { nv = record { start = story.nv.start; ops = ops } }) (append-nil story.nv.ops)
did_none bank.Pch story =
    ap (λ (ops : List Operation). record story { pch = record { start = story.pch.start; ops = ops }; nv = record { start = story.nv.start; ops = story.nv.ops ++ [] } }) (append-nil story.pch.ops)
    ∙ ap (λ (ops : List Operation). record story { nv = record { start = story.nv.start; ops = ops } }) (append-nil story.nv.ops)

did_mine : (b : Bank) (op : Operation) (mine store : List Operation) (story : Story) → did_both b mine store (operated (device_of b) op story) ≡ did_both b (op ∷ mine) store story
did_mine bank.Bmc op mine store story = let e = append_assoc story.bmc.ops (op ∷ []) mine in cc
did_mine bank.Pch op mine store story = let e = append_assoc story.pch.ops (op ∷ []) mine in cc

did_store : (b : Bank) (op : Operation) (mine store : List Operation) (story : Story) → did_both b mine store (operated device.Nv op story) ≡ did_both b mine (op ∷ store) story
did_store bank.Bmc op mine store story = let e = append_assoc story.nv.ops (op ∷ []) store in cc
did_store bank.Pch op mine store story = let e = append_assoc story.nv.ops (op ∷ []) store in cc

pub after_deeds : (b : Bank) (deeds : List Deed) (story : Story) → after (deed_moves b deeds) story ≡ did_both b (side_ops side.Bank deeds) (side_ops side.Store deeds) story
after_deeds b [] story = sym (did_none b story)
after_deeds b (AsksSide s ∷ deeds) story = after_deeds b deeds story
after_deeds b (DoesSide side.Bank op ∷ deeds) story = after_deeds b deeds (operated (device_of b) op story) ∙ did_mine b op (side_ops side.Bank deeds) (side_ops side.Store deeds) story
after_deeds b (DoesSide side.Store op ∷ deeds) story = after_deeds b deeds (operated device.Nv op story) ∙ did_store b op (side_ops side.Bank deeds) (side_ops side.Store deeds) story

image_both : (b : Bank) (s : Side) (deeds : List Deed) (story : Story) → image_at (device_at b s) (did_both b (side_ops side.Bank deeds) (side_ops side.Store deeds) story) ≡ play (image_at (device_at b s) story) (side_ops s deeds)
image_both bank.Bmc side.Bank deeds story = play-append story.bmc.start story.bmc.ops (side_ops side.Bank deeds)
image_both bank.Pch side.Bank deeds story = play-append story.pch.start story.pch.ops (side_ops side.Bank deeds)
image_both bank.Bmc side.Store deeds story = play-append story.nv.start story.nv.ops (side_ops side.Store deeds)
image_both bank.Pch side.Store deeds story = play-append story.nv.start story.nv.ops (side_ops side.Store deeds)

-- what deeds leave of a side
pub image_deeds : (b : Bank) (s : Side) (deeds : List Deed) (story : Story) → image_at (device_at b s) (after (deed_moves b deeds) story) ≡ play (image_at (device_at b s) story) (side_ops s deeds)
image_deeds b s deeds story = ap (λ (t : Story). image_at (device_at b s) t) (after_deeds b deeds story) ∙ image_both b s deeds story

-- ---- a cut of deeds is a cut of their moves
moves_append : (b : Bank) (deeds more : List Deed) → deed_moves b (deeds ++ more) ≡ deed_moves b deeds ++ deed_moves b more
moves_append b [] more = refl
moves_append b (deed ∷ deeds) more = ap (λ (ms : List Move). deed_move b deed ∷ ms) (moves_append b deeds more)

failed_move : (b : Bank) (s : Side) (image : List ℕ) (next : Deed) (last : List Deed) (story : Story) → image_at (device_at b s) story ≡ image → SideFailedAt s image next last
    → FailedAt (device_at b s) story (deed_move b next) (deed_moves b last)
failed_move b s image _ _ story e side_asking = asking
failed_move b s image _ _ story e (side_unbegun op) = unbegun op
failed_move b s image _ _ story e (side_torn op done t) = torn op done (subst (λ (bytes : List ℕ). IsTorn bytes op done) (sym e) t)

pub pass_cut : (b : Bank) (s : Side) (deeds trace : List Deed) (story : Story) → IsDeedCut s deeds (image_at (device_at b s) story) trace
    → IsCut (device_at b s) (deed_moves b deeds) story (deed_moves b trace)
pass_cut b s deeds trace story cut = record {
  front = deed_moves b cut.front;
  next = deed_move b cut.next;
  rest = deed_moves b cut.rest;
  last = deed_moves b cut.last;
  plan = ap (λ (ds : List Deed). deed_moves b ds) cut.plan ∙ moves_append b cut.front (cut.next ∷ cut.rest);
  is = ap (λ (ds : List Deed). deed_moves b ds) cut.is ∙ moves_append b cut.front cut.last;
  failed = failed_move b s (play (image_at (device_at b s) story) (side_ops s cut.front)) cut.next cut.last (after (deed_moves b cut.front) story) (image_deeds b s cut.front story) cut.failed;
}

-- ---- a bank's device and the store work, and all else stays
pub record OnlyBoth (b : Bank) (old new : World) : Type 0 where
  pub other : state_at (device_of (other_bank b)) new ≡ state_at (device_of (other_bank b)) old
  pub item : new.item ≡ old.item
  pub notes : new.notes.list ≡ old.notes.list
  pub guards : new.guards ≡ old.guards

abbrev pub pair_of : Bank → World → Pair
pair_of b w = record { bank = state_at (device_of b) w; store = w.nv }

-- what is true of both sides, and of a device that stays, is true of each device
each_of : (P : Device → FlashState → FlashState → Type 0) → ((which : Device) (d : FlashState) → P which d d) → (b : Bank) (old new : World) → OnlyBoth b old new
    → ((s : Side) → P (device_at b s) (at_side s (pair_of b old)) (at_side s (pair_of b new))) → (which : Device) → P which (state_at which old) (state_at which new)
each_of P stays bank.Bmc old new only p device.Bmc = p side.Bank
each_of P stays bank.Bmc old new only p device.Pch = subst (λ (d : FlashState). P device.Pch old.pch d) (sym only.other) (stays device.Pch old.pch)
each_of P stays bank.Pch old new only p device.Bmc = subst (λ (d : FlashState). P device.Bmc old.bmc d) (sym only.other) (stays device.Bmc old.bmc)
each_of P stays bank.Pch old new only p device.Pch = p side.Bank
each_of P stays _ old new only p device.Nv = p side.Store

module _ (b : Bank) (old new : World) (only : OnlyBoth b old new) where
  moved_both : ((s : Side) → Worked (at_side s (pair_of b old)) (at_side s (pair_of b new))) → AllMoved old new
  moved_both w =
      let each = each_of (λ which c d. Moved c d) (λ which d. Moved-refl d) b old new only (λ s. (w s).moved) in
      record { bmc = each device.Bmc; pch = each device.Pch; nv = each device.Nv }

  -- a part of the states that both sides keep
  part_both : (part : FlashState → ℕ) → ((s : Side) → part (at_side s (pair_of b new)) ≡ part (at_side s (pair_of b old))) → (which : Device) → part (state_at which new) ≡ part (state_at which old)
  part_both part e = each_of (λ which c d. part d ≡ part c) (λ which d. refl) b old new only e

  lost_both : ((s : Side) → (at_side s (pair_of b new)).losses ≡ (at_side s (pair_of b old)).losses) → NoneLost old new
  lost_both e = let each = part_both (λ d. d.losses) e in record { bmc = each device.Bmc; pch = each device.Pch; nv = each device.Nv }

  failed_both : ((s : Side) → (at_side s (pair_of b new)).faults ≡ (at_side s (pair_of b old)).faults) → NoneFailed old new
  failed_both e = let each = part_both (λ d. d.faults) e in record { bmc = each device.Bmc; pch = each device.Pch; nv = each device.Nv }

  -- one that all devices keep but the one of a side
  part_others : (part : FlashState → ℕ) (s : Side) → part (at_side (other_side s) (pair_of b new)) ≡ part (at_side (other_side s) (pair_of b old))
      → (other : Device) → other ≢ device_at b s → part (state_at other new) ≡ part (state_at other old)
  part_others part s e = each_of (λ which c d. which ≢ device_at b s → part d ≡ part c) (λ which d apart. refl) b old new only
      (λ t. by_side (λ (t : Side). device_at b t ≢ device_at b s → part (at_side t (pair_of b new)) ≡ part (at_side t (pair_of b old))) s t (λ apart. absurd (apart refl)) (λ apart. e))

-- these operations are added to a device
pub record Adds (ops : List Operation) (old new : FlashState) : Type 0 where
  pub start : new.start ≡ old.start
  pub is : new.ops ≡ old.ops ++ ops

did_adds : (ops : List Operation) (old new : FlashState) → Did ops old new → Adds ops old new
did_adds ops old new h = record { start = h.worked.moved.start; is = Did-ops ops old new h }

failed_adds : (fail : FlashFail) (ops : List Operation) (old new : FlashState) → Failed fail ops old new → Adds ops old new
failed_adds fail ops old new h = record { start = h.worked.moved.start; is = h.done }

story_both : (b : Bank) (deeds : List Deed) (old new : World) → OnlyBoth b old new
    → ((s : Side) → Adds (side_ops s deeds) (at_side s (pair_of b old)) (at_side s (pair_of b new))) → story_of new ≡ did_both b (side_ops side.Bank deeds) (side_ops side.Store deeds) (story_of old)
story_both bank.Bmc deeds old new only a =
    let o = only.other in let i = only.item in let l = only.notes in let g = only.guards in
    let bs = (a side.Bank).start in let bo = (a side.Bank).is in let ss = (a side.Store).start in let so = (a side.Store).is in cc
story_both bank.Pch deeds old new only a =
    let o = only.other in let i = only.item in let l = only.notes in let g = only.guards in
    let bs = (a side.Bank).start in let bo = (a side.Bank).is in let ss = (a side.Store).start in let so = (a side.Store).is in cc

story_deeds : (b : Bank) (deeds : List Deed) (old new : World) → OnlyBoth b old new
    → ((s : Side) → Adds (side_ops s deeds) (at_side s (pair_of b old)) (at_side s (pair_of b new))) → story_of new ≡ after (deed_moves b deeds) (story_of old)
story_deeds b deeds old new only a = story_both b deeds old new only a ∙ sym (after_deeds b deeds (story_of old))

-- all deeds were done
Ran-deeds : (b : Bank) (deeds : List Deed) (old new : World) → OnlyBoth b old new → DidAll deeds (pair_of b old) (pair_of b new) → Ran (deed_moves b deeds) old new
Ran-deeds b deeds old new only h = record {
  is = story_deeds b deeds old new only (λ s. did_adds (side_ops s deeds) (at_side s (pair_of b old)) (at_side s (pair_of b new)) (h.each s));
  moved = moved_both b old new only (λ s. (h.each s).worked);
  none_lost = lost_both b old new only (λ s. ap (λ (d : FlashState). d.losses) (h.each s).whole);
  none_failed = failed_both b old new only (λ s. ap (λ (d : FlashState). d.faults) (h.each s).whole);
}

-- a device that stays on loses nothing
worked_kept : (old new : FlashState) → Worked old new → old.powered ≡ true → new.powered ≡ old.powered → new.losses ≡ old.losses
worked_kept old new h on same = by_case (cases_Bool (was_done old new old.cut_due))
  where
    by_case : ((was_done old new old.cut_due ≡ true) ⊎ (was_done old new old.cut_due ≡ false)) → new.losses ≡ old.losses
    by_case (inl done) = let off : new.powered ≡ false = rw done at h.powered in cc
    by_case (inr not_done) = rw not_done at h.moved.losses

same_state : (b : Bank) (s : Side) (w : World) → state_at (device_at b s) w ≡ at_side s (pair_of b w)
same_state b side.Bank w = refl
same_state b side.Store w = refl

image_side : (b : Bank) (s : Side) (w : World) → image_at (device_at b s) (story_of w) ≡ now (at_side s (pair_of b w))
image_side bank.Bmc side.Bank w = refl
image_side bank.Pch side.Bank w = refl
image_side b side.Store w = refl

-- a call of one side failed, and the other one did its own
module _ (b : Bank) (s : Side) (deeds : List Deed) (old new : World) (only : OnlyBoth b old new) (on : (at_side s (pair_of b old)).powered ≡ true) where
  stopped_cause : (fail : FlashFail) (ops more : List Operation) → Failed fail ops (at_side s (pair_of b old)) (at_side s (pair_of b new))
      → Did more (at_side (other_side s) (pair_of b old)) (at_side (other_side s) (pair_of b new)) → Caused (device_at b s) fail old new
  stopped_cause Fault ops more h k = (
    record {
      once = rw (same_state b s new, same_state b s old) h.failed;
      others = part_others b old new only (λ d. d.faults) s (ap (λ (d : FlashState). d.faults) k.whole);
    },
    lost_both b old new only (λ t. by_side (λ (t : Side). (at_side t (pair_of b new)).losses ≡ (at_side t (pair_of b old)).losses) s t
        (worked_kept (at_side s (pair_of b old)) (at_side s (pair_of b new)) h.worked on (h.still refl)) (ap (λ (d : FlashState). d.losses) k.whole)),
  )
  stopped_cause Lost ops more h k = (
    record {
      once = rw (same_state b s new, same_state b s old) (Worked-lost (at_side s (pair_of b old)) (at_side s (pair_of b new)) h.worked on h.failed.0);
      others = part_others b old new only (λ d. d.losses) s (ap (λ (d : FlashState). d.losses) k.whole);
    },
    failed_both b old new only (λ t. by_side (λ (t : Side). (at_side t (pair_of b new)).faults ≡ (at_side t (pair_of b old)).faults) s t
        h.failed.1 (ap (λ (d : FlashState). d.faults) k.whole)),
  )

  Stopped-deeds : (fail : FlashFail) → StoppedAt s fail deeds (pair_of b old) (pair_of b new) → Stopped (deed_moves b deeds) (device_at b s) fail old new
  Stopped-deeds fail h = record {
    trace = deed_moves b h.trace;
    cut = pass_cut b s deeds h.trace (story_of old) (subst (λ (image : List ℕ). IsDeedCut s deeds image h.trace) (sym (image_side b s old)) h.cut);
    is = story_deeds b h.trace old new only (λ t. by_side (λ (t : Side). Adds (side_ops t h.trace) (at_side t (pair_of b old)) (at_side t (pair_of b new))) s t
        (failed_adds fail (side_ops s h.trace) (at_side s (pair_of b old)) (at_side s (pair_of b new)) h.here)
        (did_adds (side_ops (other_side s) h.trace) (at_side (other_side s) (pair_of b old)) (at_side (other_side s) (pair_of b new)) h.there));
    cause = stopped_cause fail (side_ops s h.trace) (side_ops (other_side s) h.trace) h.here h.there;
    moved = moved_both b old new only (λ t. by_side (λ (t : Side). Worked (at_side t (pair_of b old)) (at_side t (pair_of b new))) s t h.here.worked h.there.worked);
  }

-- ---- calls of lower crates
-- the answer of a call of a bank's device and the store, as the platform's
abbrev pub at_pair : {A : Type 0} → Bank → Result A CopyFail → Result A Stop
at_pair b (Ok x) = Ok x
at_pair b (Err (fails.Bank fail)) = Err (record { device = device_of b; fail = fail })
at_pair b (Err (fails.Store fail)) = Err (record { device = device.Nv; fail = fail })

-- a call that does deeds
pub Goes-passes : {A : Type 0} (b : Bank) (deeds : List Deed) (old new : World) (r : Result A CopyFail) → OnlyBoth b old new
    → ((s : Side) → (at_side s (pair_of b old)).powered ≡ true) → Passes deeds (pair_of b old) (pair_of b new) r → Goes (λ _. deed_moves b deeds) old new (at_pair b r)
Goes-passes b deeds old new (Ok x) only on h = Ran-deeds b deeds old new only h
Goes-passes b deeds old new (Err (fails.Bank fail)) only on h = Stopped-deeds b side.Bank deeds old new only (on side.Bank) fail h
Goes-passes b deeds old new (Err (fails.Store fail)) only on h = Stopped-deeds b side.Store deeds old new only (on side.Store) fail h

-- only this device is called
abbrev pub OthersStay : Device → World → World → Type 0
OthersStay device.Bmc old new = (new.pch ≡ old.pch) × (new.nv ≡ old.nv)
OthersStay device.Pch old new = (new.bmc ≡ old.bmc) × (new.nv ≡ old.nv)
OthersStay device.Nv old new = (new.pch ≡ old.pch) × (new.bmc ≡ old.bmc)

pub record OnlyAt (which : Device) (old new : World) : Type 0 where
  pub others : OthersStay which old new
  pub item : new.item ≡ old.item
  pub notes : new.notes.list ≡ old.notes.list
  pub guards : new.guards ≡ old.guards

-- the answer of its call
abbrev pub at_device : {A : Type 0} → Device → Result A FlashFail → Result A Stop
at_device which (Ok x) = Ok x
at_device which (Err fail) = Err (record { device = which; fail = fail })

moves_called : (b : Bank) (s : Side) (plan : List Operation) → deed_moves b (called_side s plan) ≡ called (device_at b s) plan
moves_called b s [] = refl
moves_called b s (op ∷ plan) = ap (λ (ms : List Move). Does (device_at b s) op ∷ ms) (moves_called b s plan)

-- a call of one side is deeds of that side alone
follows_at : {A : Type 0} (b : Bank) (s : Side) (plan : List Operation) (old new : World) (r : Result A FlashFail) → OnlyBoth b old new
    → at_side (other_side s) (pair_of b new) ≡ at_side (other_side s) (pair_of b old) → (at_side s (pair_of b old)).powered ≡ true
    → Follows plan (at_side s (pair_of b old)) (at_side s (pair_of b new)) r → Goes (λ _. called (device_at b s) plan) old new (at_device (device_at b s) r)
follows_at b s plan old new (Ok x) only there on h =
    subst (λ (ms : List Move). Ran ms old new) (moves_called b s plan) (Ran-deeds b (called_side s plan) old new only (called_did s plan (pair_of b old) (pair_of b new) x there h))
follows_at b s plan old new (Err fail) only there on h =
    subst (λ (ms : List Move). Stopped ms (device_at b s) fail old new) (moves_called b s plan)
    (Stopped-deeds b s (called_side s plan) old new only on fail (called_stopped s plan (pair_of b old) (pair_of b new) fail there h))

-- a call that follows a plan of one device
pub Goes-follows : {A : Type 0} (which : Device) (plan : List Operation) (old new : World) (r : Result A FlashFail) → OnlyAt which old new
    → (state_at which old).powered ≡ true → Follows plan (state_at which old) (state_at which new) r → Goes (λ _. called which plan) old new (at_device which r)
Goes-follows device.Bmc plan old new r only on h = follows_at bank.Bmc side.Bank plan old new r (record { other = only.others.0; item = only.item; notes = only.notes; guards = only.guards }) only.others.1 on h
Goes-follows device.Pch plan old new r only on h = follows_at bank.Pch side.Bank plan old new r (record { other = only.others.0; item = only.item; notes = only.notes; guards = only.guards }) only.others.1 on h
Goes-follows device.Nv plan old new r only on h = follows_at bank.Bmc side.Store plan old new r (record { other = only.others.0; item = only.item; notes = only.notes; guards = only.guards }) only.others.1 on h

-- a call that only reads one
pub Goes-reads : {A : Type 0} (which : Device) (old new : World) (r : Result A FlashFail) → OnlyAt which old new
    → (state_at which old).powered ≡ true → EndsAt (failed_by (λ fail. Some fail) r) (state_at which old) (state_at which new) → Goes (λ _. called which []) old new (at_device which r)
Goes-reads which old new r only on h = Goes-follows which [] old new r only on (Follows-reads (state_at which old) (state_at which new) r h)

-- ---- work that calls no device
-- devices may be powered up or down
pub record Uncalled (old new : World) : Type 0 where
  pub bmc : new.bmc ≡ record old.bmc { powered = new.bmc.powered }
  pub pch : new.pch ≡ record old.pch { powered = new.pch.powered }
  pub nv : new.nv ≡ record old.nv { powered = new.nv.powered }

moved_uncalled : (old new : FlashState) → new ≡ record old { powered = new.powered } → Moved old new
moved_uncalled old new e = subst (λ (d : FlashState). Moved old d) (sym e) (Moved-power old new.powered)

pub Ran-uncalled : (moves : List Move) (old new : World) → Uncalled old new → story_of new ≡ after moves (story_of old) → Ran moves old new
Ran-uncalled moves old new h is = record {
  is = is;
  moved = record { bmc = moved_uncalled old.bmc new.bmc h.bmc; pch = moved_uncalled old.pch new.pch h.pch; nv = moved_uncalled old.nv new.nv h.nv };
  none_lost = record { bmc = ap (λ (d : FlashState). d.losses) h.bmc; pch = ap (λ (d : FlashState). d.losses) h.pch; nv = ap (λ (d : FlashState). d.losses) h.nv };
  none_failed = record { bmc = ap (λ (d : FlashState). d.faults) h.bmc; pch = ap (λ (d : FlashState). d.faults) h.pch; nv = ap (λ (d : FlashState). d.faults) h.nv };
}

uncalled_same : (old new : FlashState) → new ≡ old → new ≡ record old { powered = new.powered }
uncalled_same old new e = subst (λ (d : FlashState). d ≡ record old { powered = d.powered }) (sym e) refl

-- something is noted, and nothing else changes
pub Ran-says : (what : Counts → What) (old new : World)
    → new.bmc ≡ old.bmc → new.pch ≡ old.pch → new.nv ≡ old.nv → new.item ≡ old.item
    → new.notes.list ≡ old.notes.list ++ record { item = old.item; what = what (counts_of (story_of old)) } ∷ []
    → new.guards ≡ guards_after (what (counts_of (story_of old))) old.guards
    → Ran (Says what ∷ []) old new
Ran-says what old new b p n i l g =
    Ran-uncalled (Says what ∷ []) old new (record { bmc = uncalled_same old.bmc new.bmc b; pch = uncalled_same old.pch new.pch p; nv = uncalled_same old.nv new.nv n }) cc
