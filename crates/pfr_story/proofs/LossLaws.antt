-- A loss of power ends a step, and is noted exactly where it was counted.
use Rattle.std.proofs.Common.{◌≡◌, ◌↔◌, ◌∙◌, ◌<◌, refl, sym, ap, subst, arith, ℕ, Bool, true, false, List, [], ◌∷◌, ◌++◌, Option, Some, None, ◌⊎◌, inl, inr}
use Rattle.pfr_flash.specs.FlashState.{FlashState, size_of}
use Rattle.pfr_flash.specs.declared.names.Bank.{Bank}
use Rattle.pfr_flash.specs.declared.names.Bank.TheVariants as bank
use Rattle.pfr_flash.specs.declared.names.Counts.{Counts}
use Rattle.pfr_flash.specs.declared.names.Device.{Device}
use Rattle.pfr_engine.specs.Acceptance.{Acceptance}
use Rattle.pfr_fuses.specs.declared.root_slot.RootSlot.{RootSlot}
use Rattle.pfr_script.specs.declared.event.Event.{Event}
use Rattle.pfr_script.specs.declared.event.Event.TheVariants as event
use Rattle.pfr_script.specs.declared.event.Intent.{Intent}
use Rattle.pfr_watch.specs.Stages.{next_stage}
use Rattle.pfr_watch.specs.declared.stage.Stage.{Stage}
use Rattle.pfr_report.specs.Texts.{IsNoted}
use Rattle.pfr_report.specs.declared.note.Note.{Note}
use Rattle.pfr_report.specs.declared.note.What.{What}
use Rattle.pfr_report.specs.declared.note.What.TheVariants as what
use Rattle.pfr_story.specs.Story.{Story, Move, Says, after, noted, counts_of}
use Rattle.pfr_story.specs.World.{World, story_of, state_at, NoneLost, LostAt, added}
use Rattle.pfr_story.specs.Goes.{Ran}
use Rattle.pfr_story.specs.Safety.{AllMake}
use Rattle.pfr_story.specs.Course.{Stretch, Steps, Course, Follows}
use Rattle.pfr_story.specs.Standing.{standing_of, standing_from, standing_after, Standing, Off}
use Rattle.pfr_story.specs.Plans.{brought_up, expired, migrated, provisioned, filtered, smbus_judged}
use Rattle.pfr_story.specs.UpdatePlans.{updating}
use Rattle.pfr_story.specs.Turn.{bank_stretch, fuse_stretch, provision_stretch, spi_stretch, expiry_stretch, update_stretch, is_due, stretch_if, stage_at, ignored, off_course, power_course, provision_course, spi_course, smbus_course, tick_course, boot_course, update_course, taken, begun, Turn}
use Rattle.pfr_story.specs.Promises.{HasLost, LossesAreNoted, IsLast, LostEnds, IsSwitchedOff, NotesOff}
use Rattle.pfr_story.proofs.WorldLaws.{NoneLost-trans, NoneLost-at, LostAt-later, LostAt-on, each_at}
use Rattle.pfr_story.proofs.Sequence.{after-append}
use Rattle.pfr_story.proofs.SafetyLaws.{AllMake-append, AllMake-as, cut_makes}
use Rattle.pfr_story.proofs.Courses.{went_on, Turn-cases}
use Rattle.pfr_story.proofs.Traces.{noted_append, noted_right}
use Rattle.pfr_story.proofs.Made.{said, said_append, Made, made_then, added_said, Whichever, said_all}
use Rattle.pfr_story.proofs.BringRules.{IsOwn}
use Rattle.pfr_story.proofs.StepTraces.{pass_noted}
use Rattle.pfr_story.proofs.Facts.{IsFailure, IsNoFailure, IsMine, NoDevice, brought_makes, expired_makes, updating_makes, filtered_makes, smbus_makes}
use Rattle.pfr_story.proofs.FaultLaws.{begun_at}
use Rattle.pfr_story.proofs.Turns.{step_of, Turn-known, IsStore, migrated_makes, provisioned_makes}

-- ---- moves that note no loss
abbrev IsLoss : What → Type 0
IsLoss (what.Lost device at) = Unit {0}
IsLoss that = ⊥

abbrev IsNoLoss : (Counts → What) → Type 0
IsNoLoss w = (at : Counts) → ¬ IsLoss (w at)

abbrev pub AllQuiet : List Move → Type 0
AllQuiet moves = AllMake Whichever IsNoLoss moves

loss_fails : (that : What) → IsLoss that → IsFailure that
loss_fails (what.Lost device at) loss = tt
loss_fails _ loss = absurd loss

quiet_made : (D : Device → Type 0) (moves : List Move) → AllMake D IsNoFailure moves → AllQuiet moves
quiet_made D moves made = AllMake-as D Whichever IsNoFailure IsNoLoss (λ which own. tt) (λ w none at loss. none at (loss_fails (w at) loss)) moves made

no_loss : (that : What) → IsLoss that → (moves : List Move) (story : Story) → AllQuiet moves → ¬ IsNoted (said moves story) that
no_loss that loss moves story q n = said_all (λ (w : What). ¬ IsLoss w) moves story q that n loss

-- what a stretch does, and notes at a fault
pub record IsQuietStretch (s : Stretch) : Type 0 where
  pub plan : (story : Story) → AllQuiet (s.plan story)
  pub noted : (which : Device) → AllQuiet (s.on_fault which)

abbrev pub AreQuiet : List Stretch → Type 0
AreQuiet [] = Unit {0}
AreQuiet (s ∷ ss) = IsQuietStretch s × AreQuiet ss

-- ---- a step without a loss, or with one at its end
pub record GoesQuiet (old new : World) : Type 0 where
  pub made : Made old new
  pub quiet : AllQuiet made.trace
  pub none : NoneLost old new

-- one of a device, which was counted, or one without a device, as the power was taken
abbrev pub IsCounted : Option Device → World → World → Type 0
IsCounted (Some which) old new = LostAt which old new
IsCounted None old new = NoneLost old new

pub record EndsLost (old new : World) : Type 0 where
  pub device : Option Device
  pub counted : IsCounted device old new
  pub front : List Move
  pub quiet : AllQuiet front
  pub is : story_of new ≡ noted (what.Lost device) (after front (story_of old))

quiet_then : (a b c : World) → GoesQuiet a b → GoesQuiet b c → GoesQuiet a c
quiet_then a b c p q = record { made = made_then a b c p.made q.made; quiet = AllMake-append Whichever IsNoLoss p.made.trace q.made.trace p.quiet q.quiet; none = NoneLost-trans a b c p.none q.none }

counted_later : (device : Option Device) (a b c : World) → NoneLost a b → IsCounted device b c → IsCounted device a c
counted_later (Some which) a b c n l = LostAt-later which a b c n l
counted_later None a b c n l = NoneLost-trans a b c n l

lost_then : (a b c : World) → GoesQuiet a b → EndsLost b c → EndsLost a c
lost_then a b c p q = record {
  device = q.device;
  counted = counted_later q.device a b c p.none q.counted;
  front = p.made.trace ++ q.front;
  quiet = AllMake-append Whichever IsNoLoss p.made.trace q.front p.quiet q.quiet;
  is = q.is ∙ ap (λ (s : Story). noted (what.Lost q.device) (after q.front s)) p.made.is ∙ sym (ap (λ (s : Story). noted (what.Lost q.device) s) (after-append p.made.trace q.front (story_of a)));
}

abbrev pub EndsSo : World → World → Type 0
EndsSo old new = GoesQuiet old new ⊎ EndsLost old new

ends_then : (a b c : World) → GoesQuiet a b → EndsSo b c → EndsSo a c
ends_then a b c p (inl q) = inl (quiet_then a b c p q)
ends_then a b c p (inr l) = inr (lost_then a b c p l)

quiet_ran : (moves : List Move) (old new : World) → Ran moves old new → AllQuiet moves → GoesQuiet old new
quiet_ran moves old new r q = record { made = record { trace = moves; is = r.is }; quiet = q; none = r.none_lost }

pub Steps-losses : (ss : List Stretch) (old new : World) → AreQuiet ss → Steps ss old new → EndsSo old new
Steps-losses [] old new q p = inl (quiet_ran [] old new p tt)
Steps-losses (s ∷ ss) old new q (inl (mid, c, rest)) = ends_then old mid new (quiet_ran (s.plan (story_of old)) old mid c (q.0.plan (story_of old))) (Steps-losses ss mid new q.1 rest)
Steps-losses (s ∷ ss) old new q (inr (inl (mid, f, rest))) =
    let cut = cut_makes Whichever IsNoLoss f.which (s.plan (story_of old)) f.stopped.trace (story_of old) (q.0.plan (story_of old)) f.stopped.cut in
    let stopped : GoesQuiet old f.at = record { made = record { trace = f.stopped.trace; is = f.stopped.is }; quiet = cut.1; none = f.stopped.cause.1 } in
    ends_then old mid new (quiet_then old f.at mid stopped (quiet_ran (s.on_fault f.which) f.at mid f.noted (q.0.noted f.which)))
    (went_on s.goes_on (Steps ss) mid new (EndsSo mid new) (λ e r. Steps-losses ss mid new q.1 r) (λ r. inl (quiet_ran [] mid new r tt)) rest)
Steps-losses (s ∷ ss) old new q (inr (inr l)) =
    let cut = cut_makes Whichever IsNoLoss l.which (s.plan (story_of old)) l.stopped.trace (story_of old) (q.0.plan (story_of old)) l.stopped.cut in
    inr (record {
      device = Some l.which;
      counted = LostAt-on l.which old l.at new l.stopped.cause.0 l.noted.none_lost;
      front = l.stopped.trace;
      quiet = cut.1;
      is = l.noted.is ∙ ap (λ (s : Story). noted (what.Lost (Some l.which)) s) l.stopped.is;
    })

-- ---- by event
bank_quiet : (accepts : Acceptance) (b : Bank) → IsQuietStretch (bank_stretch accepts b)
bank_quiet accepts b = record {
  plan = λ story. quiet_made (IsOwn b) (brought_up accepts b story) (brought_makes accepts b story);
  noted = λ which. ((λ at loss. loss), tt);
}

fuses_quiet : IsQuietStretch fuse_stretch
fuses_quiet = record {
  plan = λ story. quiet_made IsStore (migrated story) (migrated_makes story);
  noted = λ which. ((λ at loss. loss), ((λ at loss. loss), ((λ at loss. loss), ((λ at loss. loss), tt))));
}

provision_quiet : (root : RootSlot) → IsQuietStretch (provision_stretch root)
provision_quiet root = record {
  plan = λ story. quiet_made IsStore (provisioned root story) (provisioned_makes root story);
  noted = λ which. ((λ at loss. loss), ((λ at loss. loss), tt));
}

spi_quiet : (accepts : Acceptance) (b : Bank) (frame : List ℕ) → IsQuietStretch (spi_stretch accepts b frame)
spi_quiet accepts b frame = record {
  plan = λ story. quiet_made (IsMine b) (filtered accepts b frame story) (filtered_makes accepts b frame story);
  noted = λ which. ((λ at loss. loss), ((λ at loss. loss), tt));
}

expiry_quiet : (accepts : Acceptance) (b : Bank) → IsQuietStretch (expiry_stretch accepts b)
expiry_quiet accepts b = record {
  plan = λ story. quiet_made (IsOwn b) (expired accepts b story) (expired_makes accepts b story);
  noted = λ which. ((λ at loss. loss), tt);
}

update_quiet : (accepts : Acceptance) (b : Bank) (intent : Intent) → IsQuietStretch (update_stretch accepts b intent)
update_quiet accepts b intent = record {
  plan = λ story. quiet_made (IsOwn b) (updating accepts b intent story) (updating_makes accepts b intent story);
  noted = λ which. ((λ at loss. loss), tt);
}

quiet_if : (due : Bool) (s : Stretch) (ss : List Stretch) → IsQuietStretch s → AreQuiet ss → AreQuiet (stretch_if due s ss)
quiet_if true s ss quiet rest = (quiet, rest)
quiet_if false s ss quiet rest = rest

along : (c : Course) (old new : World) → AllQuiet c.first → AreQuiet c.stretches → Follows c old new → EndsSo old new
along c old new first quiet (mid, says, rest) = ends_then old mid new (quiet_ran c.first old mid says first) (Steps-losses c.stretches mid new quiet rest)

-- the power is taken
off_lost : (old new : World) → Follows off_course old new → EndsLost old new
off_lost old new (mid, says, rest) = record { device = None; counted = NoneLost-trans old mid new says.none_lost rest.none_lost; front = []; quiet = tt; is = rest.is ∙ says.is }

taken_ends : (accepts : Acceptance) (e : Event) (story : Story) (old new : World) → Follows (taken accepts e story) old new → EndsSo old new
taken_ends accepts event.Power story old new t =
    along (power_course accepts) old new ((λ at loss. loss), tt) (fuses_quiet, (bank_quiet accepts bank.Bmc, (bank_quiet accepts bank.Pch, tt))) t
taken_ends accepts event.Off story old new t = inr (off_lost old new t)
taken_ends accepts (event.Provision root) story old new t = along (provision_course root) old new tt (provision_quiet root, tt) t
taken_ends accepts (event.Spi b frame) story old new t = along (spi_course accepts b frame) old new tt (spi_quiet accepts b frame, tt) t
taken_ends accepts (event.Smbus b frame) story old new t =
    let moves : List Move = smbus_judged accepts b frame story in
    along (smbus_course accepts b frame story) old new (quiet_made NoDevice moves (smbus_makes accepts b frame story)) tt t
taken_ends accepts (event.Tick n) story old new t =
    let pch : Stretch = expiry_stretch accepts bank.Pch in
    along (tick_course accepts n story) old new tt
    (quiet_if (is_due bank.Bmc n story) (expiry_stretch accepts bank.Bmc) (stretch_if (is_due bank.Pch n story) pch []) (expiry_quiet accepts bank.Bmc)
    (quiet_if (is_due bank.Pch n story) pch [] (expiry_quiet accepts bank.Pch) tt)) t
taken_ends accepts (event.Boot b true) story old new t =
    let at : Stage = stage_at b story in
    along (boot_course accepts b true story) old new
    (pass_noted (λ (that : What). (counts : Counts) → ¬ IsLoss that) b at (next_stage at) (λ e counts loss. loss) (λ e counts loss. loss), tt) tt t
taken_ends accepts (event.Boot b false) story old new t = along (boot_course accepts b false story) old new tt (expiry_quiet accepts b, tt) t
taken_ends accepts (event.Update b intent) story old new t = along (update_course accepts b intent) old new tt (update_quiet accepts b intent, tt) t

-- Whichever step is without a loss, or ends with one.
pub Turn-ends : (accepts : Acceptance) (e : Event) (old new : World) → Turn accepts e old new → EndsSo (begun e old) new
Turn-ends accepts e old new t = elim (Turn-cases accepts e old new t) [
  | inl idle ↦ along ignored (begun e old) new ((λ at loss. loss), tt) tt idle.1
  | inr on ↦ taken_ends accepts e (story_of old) (begun e old) new on.1
]

-- ---- what is noted of it
same_loss : (one other : Option Device) (counts at : Counts) → what.Lost one counts ≡ what.Lost other at → (other ≡ one) × (at ≡ counts)
same_loss one other counts at e = (cc, cc)

module _ (old new : World) (l : EndsLost old new) where
  abbrev there : Story
  there = after l.front (story_of old)

  abbrev note : Note
  note = record { item = there.item; what = what.Lost l.device (counts_of there) }

  abbrev made : Made old new
  made = record { trace = l.front ++ Says (what.Lost l.device) ∷ []; is = l.is ∙ sym (after-append l.front (Says (what.Lost l.device) ∷ []) (story_of old)) }

  added_last : added old new ≡ said l.front (story_of old) ++ note ∷ []
  added_last = added_said old new made ∙ said_append l.front (Says (what.Lost l.device) ∷ []) (story_of old)

  -- it is the only one
  lost_last : (other : Option Device) (at : Counts) → IsNoted (added old new) (what.Lost other at) → (other ≡ l.device) × (at ≡ counts_of there)
  lost_last other at n = elim (noted_append (said l.front (story_of old)) (note ∷ []) (what.Lost other at) (subst (λ (notes : List Note). IsNoted notes (what.Lost other at)) added_last n)) [
    | inl m ↦ absurd (no_loss (what.Lost other at) tt l.front (story_of old) l.quiet m)
    | inr m ↦ elim m [ inl e ↦ same_loss l.device other (counts_of there) at e | inr none ↦ absurd none ]
  ]

  is_noted : IsNoted (added old new) (what.Lost l.device (counts_of there))
  is_noted = subst (λ (notes : List Note). IsNoted notes (what.Lost l.device (counts_of there))) (sym added_last) (noted_right (said l.front (story_of old)) (note ∷ []) (what.Lost l.device (counts_of there)) (inl refl))

  notes_last : new.notes.list ≡ there.notes ++ record { item = new.item; what = what.Lost l.device (counts_of there) } ∷ []
  notes_last =
      let item : new.item ≡ there.item = ap (λ (s : Story). s.item) l.is in
      ap (λ (s : Story). s.notes) l.is ∙ ap (λ (n : ℕ). there.notes ++ record { item = n; what = what.Lost l.device (counts_of there) } ∷ []) (sym item)

pub standing_push : (which : Bank) (s : Standing) (notes : List Note) (one : Note) → standing_from which s (notes ++ one ∷ []) ≡ standing_after which one.what (standing_from which s notes)
standing_push which s [] one = refl
standing_push which s (first ∷ notes) one = standing_push which (standing_after which first.what s) notes one

off_last : (which : Bank) (old new : World) (l : EndsLost old new) → standing_of which new.notes.list ≡ Off
off_last which old new l =
    ap (λ (notes : List Note). standing_of which notes) (notes_last old new l)
    ∙ standing_push which Off (there old new l).notes (record { item = new.item; what = what.Lost l.device (counts_of (there old new l)) })

last_of : (old new : World) (l : EndsLost old new) (other : Option Device) (at : Counts) → IsNoted (added old new) (what.Lost other at) → IsLast other at new
last_of old new l other at n =
    let k = lost_last old new l other at n in
    record {
      before = (there old new l).notes;
      last = subst (λ (d : Option Device). new.notes.list ≡ (there old new l).notes ++ record { item = new.item; what = what.Lost d at } ∷ []) (sym k.0)
          (subst (λ (c : Counts). new.notes.list ≡ (there old new l).notes ++ record { item = new.item; what = what.Lost l.device c } ∷ []) (sym k.1) (notes_last old new l));
      counts = k.1 ∙ sym (ap (λ (s : Story). counts_of s) l.is);
      bmc = off_last bank.Bmc old new l;
      pch = off_last bank.Pch old new l;
    }

quiet_added : (old new : World) → GoesQuiet old new → (other : Option Device) (at : Counts) → ¬ IsNoted (added old new) (what.Lost other at)
quiet_added old new q other at n =
    no_loss (what.Lost other at) tt q.made.trace (story_of old) q.quiet (subst (λ (notes : List Note). IsNoted notes (what.Lost other at)) (added_said old new q.made) n)

-- Lost ends the step.
pub Turn-lost : (accepts : Acceptance) (e : Event) (old new : World) → Turn accepts e old new → LostEnds old new
Turn-lost accepts e old new t other at n = by_end (Turn-ends accepts e old new t)
  where
    by_end : EndsSo (begun e old) new → IsLast other at new
    by_end (inl q) = absurd (quiet_added (begun e old) new q other at n)
    by_end (inr l) = last_of (begun e old) new l other at n

counted_fell : (which : Device) (old new : World) (device : Option Device) → device ≡ Some which → IsCounted device old new → (state_at which old).losses < (state_at which new).losses
counted_fell which old new (Some other) e l =
    let same : other ≡ which = cc in
    let here : LostAt which old new = subst (λ (d : Device). LostAt d old new) same l in
    omega (arith, here.once)
counted_fell which old new None e l = absurd cc

fell_counted : (which : Device) (old new : World) (device : Option Device) → IsCounted device old new → (state_at which old).losses < (state_at which new).losses → device ≡ Some which
fell_counted which old new (Some other) l fell = elim (each_at other which) [
  | inl e ↦ ap (λ (d : Device). Some d) (sym e)
  | inr apart ↦ absurd (omega (arith, l.others which apart, fell))
]
fell_counted which old new None l fell = absurd (omega (arith, NoneLost-at which old new l, fell))

-- A loss is noted exactly of a device whose count of losses rose.
pub Turn-losses : (accepts : Acceptance) (e : Event) (old new : World) → Turn accepts e old new → LossesAreNoted old new
Turn-losses accepts e old new t which = by_end (Turn-ends accepts e old new t)
  where
    by_end : EndsSo (begun e old) new → (HasLost which (added old new) ↔ ((state_at which old).losses < (state_at which new).losses))
    by_end (inl q) = (
      (λ h. absurd (quiet_added (begun e old) new q (Some which) h.at h.noted)),
      (λ fell. absurd (omega (arith, NoneLost-at which (begun e old) new q.none, ap (λ (d : FlashState). d.losses) (begun_at which e old), fell))),
    )
    by_end (inr l) = (
      (λ h. let fell = counted_fell which (begun e old) new l.device (sym (lost_last (begun e old) new l (Some which) h.at h.noted).0) l.counted in omega (arith, ap (λ (d : FlashState). d.losses) (begun_at which e old), fell)),
      (λ fell.
          let is = fell_counted which (begun e old) new l.device l.counted (omega (arith, ap (λ (d : FlashState). d.losses) (begun_at which e old), fell)) in
          record {
            at = counts_of (there (begun e old) new l);
            noted = subst (λ (d : Option Device). IsNoted (added old new) (what.Lost d (counts_of (there (begun e old) new l)))) is (is_noted (begun e old) new l);
          }),
    )

-- one without a device is noted exactly where the power is taken
off_noted : (old new : World) → Follows off_course old new → IsNoted (added old new) (what.Lost None (counts_of (story_of new)))
unfolding off_lost
off_noted old new t =
    let l : EndsLost old new = off_lost old new t in
    subst (λ (at : Counts). IsNoted (added old new) (what.Lost None at)) (sym (ap (λ (s : Story). counts_of s) l.is)) (is_noted old new l)

switched_off : (accepts : Acceptance) (e : Event) (old new : World) → Turn accepts e old new → IsSwitchedOff e old → IsNoted (added old new) (what.Lost None (counts_of (story_of new)))
switched_off accepts event.Off old new t on = elim (Turn-cases accepts event.Off old new t) [ inl idle ↦ absurd (on idle.0) | inr k ↦ off_noted (begun event.Off old) new k.1 ]
switched_off accepts event.Power old new t off = absurd off
switched_off accepts (event.Provision root) old new t off = absurd off
switched_off accepts (event.Spi b frame) old new t off = absurd off
switched_off accepts (event.Smbus b frame) old new t off = absurd off
switched_off accepts (event.Tick n) old new t off = absurd off
switched_off accepts (event.Boot b pass) old new t off = absurd off
switched_off accepts (event.Update b intent) old new t off = absurd off

pub Turn-off : (accepts : Acceptance) (e : Event) (old new : World) → size_of old.nv ≡ 32768 → Turn accepts e old new → NotesOff e old new
unfolding step_of
Turn-off accepts e old new size t = record { only = λ at n. (Turn-known accepts e old new size t (what.Lost None at) n).1.1; all = switched_off accepts e old new t }
