-- An event works on no device but its own.
use Rattle.std.proofs.Common.{◌≡◌, ◌∙◌, refl, sym, subst, ℕ, Bool, true, false, List, [], ◌∷◌, inl, inr}
use Rattle.std.proofs.lemmas.Bool.{false≢true}
use Rattle.pfr_flash.specs.FlashState.{size_of}
use Rattle.pfr_flash.specs.declared.names.Bank.{Bank}
use Rattle.pfr_flash.specs.declared.names.Bank.TheVariants as bank
use Rattle.pfr_flash.specs.declared.names.Counts.{Counts}
use Rattle.pfr_flash.specs.declared.names.Device.{Device}
use Rattle.pfr_flash.specs.declared.names.Device.TheVariants as device
use Rattle.pfr_flash.proofs.PlayLemmas.{length-play}
use Rattle.pfr_engine.specs.Acceptance.{Acceptance}
use Rattle.pfr_script.specs.declared.event.Event.{Event}
use Rattle.pfr_script.specs.declared.event.Event.TheVariants as event
use Rattle.pfr_watch.specs.Watching.{expires}
use Rattle.pfr_report.specs.declared.note.What.{What}
use Rattle.pfr_story.specs.Apart.{MayWorkOn, LeavesOthers}
use Rattle.pfr_story.specs.Course.{Stretch, Course, Follows}
use Rattle.pfr_story.specs.Guards.{guard_at}
use Rattle.pfr_story.specs.Promises.{IsWork, IsHolding}
use Rattle.pfr_story.specs.Safety.{Rule, AllGood, AllSafe, AllMake, Keeps}
use Rattle.pfr_story.specs.Standing.{standing_of}
use Rattle.pfr_story.specs.Story.{Story, Move, Says, Does, Asks, noted, operated, device_of, past_at}
use Rattle.pfr_story.specs.Plans.{smbus_judged}
use Rattle.pfr_story.specs.Turn.{bank_stretch, fuse_stretch, provision_stretch, spi_stretch, expiry_stretch, update_stretch, is_due, stretch_if, stage_at, ignored, off_course, boot_course, is_idle, taken, begun, Turn}
use Rattle.pfr_story.specs.World.{World, story_of}
use Rattle.pfr_story.proofs.BringAllowed.{IsSized}
use Rattle.pfr_story.proofs.BringRules.{IsOwn}
use Rattle.pfr_story.proofs.Courses.{taken_runs, taken_boots, Turn-cases}
use Rattle.pfr_story.proofs.Endings.{IsKept, AllKept, course_traced}
use Rattle.pfr_story.proofs.Facts.{IsNoFailure, IsMine, NoDevice, brought_makes, expired_makes, updating_makes, filtered_makes, smbus_makes}
use Rattle.pfr_story.proofs.FilterLaws.{past_noted, past_other, same_ops}
use Rattle.pfr_story.proofs.SafetyLaws.{AllMake-as, safe_whole}
use Rattle.pfr_story.proofs.StepWalks.{due_runs}
use Rattle.pfr_story.proofs.Traces.{Traced, Traced-keeps}
use Rattle.pfr_story.proofs.Turns.{IsStore, migrated_makes, provisioned_makes}

-- ---- whose device a stretch calls
module _ (e : Event) (old : World) where
  abbrev Calling : Rule
  Calling (Says w) story = Unit {0}
  Calling (Does which op) story = MayWorkOn e old which
  Calling (Asks which) story = Unit {0}

  makes_safe : (S : (Counts → What) → Type 0) (moves : List Move) (story : Story) → AllMake (MayWorkOn e old) S moves → AllSafe Calling moves story
  makes_safe S [] story m = tt
  makes_safe S (Says w ∷ moves) story m = (tt, makes_safe S moves (noted w story) m.1)
  makes_safe S (Does which op ∷ moves) story m = ((m.0, λ done torn. m.0), makes_safe S moves (operated which op story) m.1)
  makes_safe S (Asks which ∷ moves) story m = (tt, makes_safe S moves story m.1)

  calls_safe : (D : Device → Type 0) (moves : List Move) (story : Story) → ((which : Device) → D which → MayWorkOn e old which) → AllMake D IsNoFailure moves → AllSafe Calling moves story
  calls_safe D moves story may makes = makes_safe IsNoFailure moves story (AllMake-as D (MayWorkOn e old) IsNoFailure IsNoFailure may (λ w plain. plain) moves makes)

  holds : (b : Bank) → IsHolding b e old → MayWorkOn e old (device_of b)
  holds bank.Bmc h = h
  holds bank.Pch h = h

  holds_mine : (b : Bank) → IsHolding b e old → (which : Device) → IsMine b which → MayWorkOn e old which
  holds_mine b h which same = subst (λ (d : Device). MayWorkOn e old d) (sym same) (holds b h)

  works_own : (b : Bank) → IsWork b e old → (which : Device) → IsOwn b which → MayWorkOn e old which
  works_own b work which (inl same) = holds_mine b (inl work) which same
  works_own b work which (inr same) = subst (λ (d : Device). MayWorkOn e old d) (sym same) (inr (b, work))

  stores : MayWorkOn e old device.Nv → (which : Device) → IsStore which → MayWorkOn e old which
  stores may which same = subst (λ (d : Device). MayWorkOn e old d) (sym same) may

  expiry_calls : (accepts : Acceptance) (b : Bank) → IsWork b e old → IsKept Calling (expiry_stretch accepts b)
  expiry_calls accepts b work = record {
    plan = λ story sized. calls_safe (IsOwn b) ((expiry_stretch accepts b).plan story) story (works_own b work) (expired_makes accepts b story);
    fault = λ which story. (tt, tt);
  }

  bank_calls : (accepts : Acceptance) (b : Bank) → IsWork b e old → IsKept Calling (bank_stretch accepts b)
  bank_calls accepts b work = record {
    plan = λ story sized. calls_safe (IsOwn b) ((bank_stretch accepts b).plan story) story (works_own b work) (brought_makes accepts b story);
    fault = λ which story. (tt, tt);
  }

  kept_if : (due : Bool) (s : Stretch) (ss : List Stretch) → (due ≡ true → IsKept Calling s) → AllKept Calling ss → AllKept Calling (stretch_if due s ss)
  kept_if true s ss kept rest = (kept refl, rest)
  kept_if false s ss kept rest = rest

  along : (c : Course) (new : World) → AllGood Calling c.first (story_of (begun e old)) → AllKept Calling c.stretches → IsSized (story_of old) → Follows c (begun e old) new → Traced Calling (begun e old) new
  along c new good kept sized t = course_traced Calling (λ which story. tt) c (begun e old) new good kept sized t

  -- what a device did stays where the event doesn't work on it
  spares : (which : Device) (from : Story) → ¬ MayWorkOn e old which → Keeps Calling (λ story. past_at which story ≡ past_at which from)
  spares which from apart (Says w) story may same = past_noted which w story ∙ same
  spares which from apart (Does other op) story may same = past_other other which op story (λ is. apart (subst (λ (d : Device). MayWorkOn e old d) (sym is) may)) ∙ same
  spares which from apart (Asks other) story may same = same

-- ---- by event
module _ (accepts : Acceptance) (old new : World) (sized : IsSized (story_of old)) where
  -- a bank whose watch is due is in work
  due_works : (n : ℕ) (b : Bank) → is_due b n (story_of old) ≡ true → IsWork b (event.Tick n) old
  due_works n b due = inr (due_runs (standing_of b old.notes.list) (expires (guard_at b old.guards).watch n) due, due)

  taken_calls : (e : Event) → is_idle e (story_of old) ≡ false → Follows (taken accepts e (story_of old)) (begun e old) new → Traced (Calling e old) (begun e old) new
  taken_calls event.Power on t =
      let power : (b : Bank) → IsWork b event.Power old = λ b. inl (inl tt) in
      let fuses : IsKept (Calling event.Power old) fuse_stretch = record {
        plan = λ story s. calls_safe event.Power old IsStore (fuse_stretch.plan story) story (stores event.Power old (inr (bank.Bmc, power bank.Bmc))) (migrated_makes story);
        fault = λ which story. (tt, (tt, (tt, (tt, tt))));
      } in
      along event.Power old (taken accepts event.Power (story_of old)) new (tt, tt) (fuses, (bank_calls event.Power old accepts bank.Bmc (power bank.Bmc), (bank_calls event.Power old accepts bank.Pch (power bank.Pch), tt))) sized t
  taken_calls event.Off on t = along event.Off old off_course new (tt, tt) tt sized t
  taken_calls (event.Provision root) on t =
      let e : Event = event.Provision root in
      let kept : IsKept (Calling e old) (provision_stretch root) = record {
        plan = λ story s. calls_safe e old IsStore ((provision_stretch root).plan story) story (stores e old (inl ((λ off. false≢true (sym on ∙ off)), tt))) (provisioned_makes root story);
        fault = λ which story. (tt, (tt, tt));
      } in
      along e old (taken accepts e (story_of old)) new tt (kept, tt) sized t
  taken_calls (event.Spi b frame) on t =
      let e : Event = event.Spi b frame in
      let runs = taken_runs (standing_of b old.notes.list) on in
      let kept : IsKept (Calling e old) (spi_stretch accepts b frame) = record {
        plan = λ story s. calls_safe e old (IsMine b) ((spi_stretch accepts b frame).plan story) story (holds_mine e old b (inr (runs, refl))) (filtered_makes accepts b frame story);
        fault = λ which story. (tt, (tt, tt));
      } in
      along e old (taken accepts e (story_of old)) new tt (kept, tt) sized t
  taken_calls (event.Smbus b frame) on t =
      let e : Event = event.Smbus b frame in
      let moves : List Move = smbus_judged accepts b frame (story_of old) in
      let safe = calls_safe e old NoDevice moves (story_of (begun e old)) (λ which none. absurd none) (smbus_makes accepts b frame (story_of old)) in
      along e old (taken accepts e (story_of old)) new (safe_whole (Calling e old) moves (story_of (begun e old)) safe) tt sized t
  taken_calls (event.Tick n) on t =
      let e : Event = event.Tick n in
      let pch : Stretch = expiry_stretch accepts bank.Pch in
      let last_one = kept_if e old (is_due bank.Pch n (story_of old)) pch [] (λ due. expiry_calls e old accepts bank.Pch (due_works n bank.Pch due)) tt in
      along e old (taken accepts e (story_of old)) new tt
      (kept_if e old (is_due bank.Bmc n (story_of old)) (expiry_stretch accepts bank.Bmc) (stretch_if (is_due bank.Pch n (story_of old)) pch []) (λ due. expiry_calls e old accepts bank.Bmc (due_works n bank.Bmc due)) last_one) sized t
  taken_calls (event.Boot b true) on t = along (event.Boot b true) old (boot_course accepts b true (story_of old)) new (tt, tt) tt sized t
  taken_calls (event.Boot b false) on t =
      let e : Event = event.Boot b false in
      let runs = (taken_boots (standing_of b old.notes.list) (stage_at b (story_of old)) on).0 in
      along e old (boot_course accepts b false (story_of old)) new tt (expiry_calls e old accepts b (inr (runs, (refl, on))), tt) sized t
  taken_calls (event.Update b intent) on t =
      let e : Event = event.Update b intent in
      let runs = taken_runs (standing_of b old.notes.list) on in
      let kept : IsKept (Calling e old) (update_stretch accepts b intent) = record {
        plan = λ story s. calls_safe e old (IsOwn b) ((update_stretch accepts b intent).plan story) story (works_own e old b (inl (inr (runs, refl)))) (updating_makes accepts b intent story);
        fault = λ which story. (tt, tt);
      } in
      along e old (taken accepts e (story_of old)) new tt (kept, tt) sized t

-- An event works on no device but those that it is for.
pub Turn-apart : (accepts : Acceptance) (e : Event) (old new : World) → size_of old.nv ≡ 32768 → Turn accepts e old new → LeavesOthers e old new
Turn-apart accepts e old new size t which apart = same_ops e which old new (Traced-keeps (Calling e old) (λ story. past_at which story ≡ past_at which (story_of (begun e old))) (spares e old which (story_of (begun e old)) apart) (begun e old) new traced refl)
  where
    sized : IsSized (story_of old)
    sized = length-play old.nv.start old.nv.ops ∙ size

    traced : Traced (Calling e old) (begun e old) new
    traced = elim (Turn-cases accepts e old new t) [
      | inl idle ↦ along e old ignored new (tt, tt) tt sized idle.1
      | inr on ↦ taken_calls accepts old new sized e on.0 on.1
    ]
