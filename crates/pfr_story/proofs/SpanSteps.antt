-- Each step keeps the spans.
use Rattle.std.proofs.Common.{◌≡◌, ◌∙◌, ℕ, ◌+◌, ◌≤◌, refl, sym, ap, subst, arith, List, [], ◌∷◌, length, length-append, All, ◌⊎◌, inl, inr, Some, Result, Ok, Err, true, false, Bool, ◌&&◌}
use Rattle.std.proofs.lemmas.Bool.{false≢true}
use Rattle.std.proofs.lemmas.List.Elements.{All-head, All-tail}
use Rattle.pfr_flash.specs.Operation.{Operation, play, IsTorn}
use Rattle.pfr_flash.specs.declared.layout.Layout.{Layout}
use Rattle.pfr_flash.specs.declared.names.Bank.{Bank}
use Rattle.pfr_flash.specs.declared.names.Bank.TheVariants as bank
use Rattle.pfr_flash.specs.declared.names.Counts.{Counts}
use Rattle.pfr_flash.specs.declared.names.Device.{Device}
use Rattle.pfr_flash.specs.declared.names.Device.TheVariants as device
use Rattle.pfr_flash.proofs.PlayLemmas.{length-play}
use Rattle.pfr_engine.specs.Acceptance.{Acceptance}
use Rattle.pfr_fuses.specs.Changes.{migration}
use Rattle.pfr_fuses.specs.FusesState.{FusesState}
use Rattle.pfr_fuses.specs.FusesOf.{fuses_of}
use Rattle.pfr_fuses.specs.Provisioning.{judge_provision, provision_plan}
use Rattle.pfr_fuses.specs.RootSlot.{layout_of}
use Rattle.pfr_fuses.specs.declared.fuse_fail.FuseFail.{FuseFail}
use Rattle.pfr_fuses.specs.declared.fuse_fail.FuseFail.TheVariants.{AlreadyProvisioned}
use Rattle.pfr_fuses.specs.declared.profile.Profile.{Profile}
use Rattle.pfr_fuses.specs.declared.profile.Profile.TheVariants.{One, Two}
use Rattle.pfr_fuses.specs.declared.root_slot.RootSlot.{RootSlot}
use Rattle.pfr_manifest.specs.declared.manifest.Manifest.{Manifest}
use Rattle.pfr_manifest.proofs.ApartLaw.{LeavesTrusted}
use Rattle.pfr_auth.specs.Trusted.{IsTrusted}
use Rattle.pfr_filter.specs.Asking.{bus_ops}
use Rattle.pfr_filter.specs.declared.verdict.BusOp.{BusOp}
use Rattle.pfr_filter.specs.declared.verdict.Verdict.TheVariants.{Pass}
use Rattle.pfr_filter.proofs.SafeLaws.{torn_leaves}
use Rattle.pfr_script.specs.declared.event.Event.{Event}
use Rattle.pfr_script.specs.declared.event.Event.TheVariants as event
use Rattle.pfr_script.specs.declared.event.Intent.{Intent}
use Rattle.pfr_watch.specs.Stages.{next_stage}
use Rattle.pfr_watch.specs.declared.stage.Stage.{Stage}
use Rattle.pfr_report.specs.declared.note.Note.{Note}
use Rattle.pfr_report.specs.declared.note.What.{What}
use Rattle.pfr_report.specs.declared.note.What.TheVariants as what
use Rattle.pfr_story.specs.Guards.{Guards, same_bank}
use Rattle.pfr_story.specs.Story.{Past, Story, Move, Says, Does, Asks, after, moved_by, noted, with_op, operated, counts_of, past_at, image_of, device_of, called, Plan}
use Rattle.pfr_story.specs.World.{World, story_of}
use Rattle.pfr_story.specs.Standing.{Standing, Off, Held, Running, Locked, is_running, standing_of}
use Rattle.pfr_story.specs.Safety.{Rule, AllGood, AllSafe, Keeps, Both}
use Rattle.pfr_story.specs.Spans.{opens_after, opens_from}
use Rattle.pfr_story.specs.Promises.{count_at}
use Rattle.pfr_story.specs.Plans.{store, brought_up, expired, migration_by, migration_in, migrated, provisioned_in, provisioned, Ruling, ruling, filtered, smbus_judged}
use Rattle.pfr_story.specs.UpdatePlans.{updating}
use Rattle.pfr_story.specs.Course.{Stretch, Follows}
use Rattle.pfr_story.specs.Turn.{fault_of, bank_stretch, fuse_stretch, provision_stretch, spi_stretch, expiry_stretch, update_stretch, ignored, off_course, power_course, tick_course, boot_course, update_course, pass_note, stage_at, is_due, is_idle, taken, guards_at, begun, Turn}
use Rattle.pfr_story.proofs.WorldLaws.{AllMoved-refl}
use Rattle.pfr_story.proofs.SafetyLaws.{AllSafe-append, safe_whole, safe_cut, kept_by, notes_operated, image_called}
use Rattle.pfr_story.proofs.Traces.{Traced, Traced-keeps}
use Rattle.pfr_story.proofs.StepTraces.{Between, AllowsLosses, IsGoodStretch, noted_along, power_along, single_along, tick_along, pass_noted}
use Rattle.pfr_story.proofs.Courses.{Turn-cases, taken_runs, taken_boots}
use Rattle.pfr_story.proofs.BusRules.{ruled, filtered_safe, calls_safe, smbus_safe}
use Rattle.pfr_story.proofs.Rulings.{ruled_leaves}
use Rattle.pfr_story.proofs.BringRules.{Any, level_at}
use Rattle.pfr_story.proofs.FuseLaws.{profile_migrated, profile_kept, provisioned_refused}
use Rattle.pfr_story.specs.Keeping.{IsSettled}
use Rattle.pfr_story.proofs.JobLeaves.{span_table}
use Rattle.pfr_story.proofs.WorkShapes.{Brings, Expires, Updates}
use Rattle.pfr_story.proofs.WorkWalks.{brought_worked, expired_worked, updating_worked}
use Rattle.pfr_story.proofs.JobWalks.{store_sized}
use Rattle.pfr_story.proofs.SpanRules.{NotOne, KeepsTwo, InWork, AtWork, opens_told, held_idle, ops_safe}
use Rattle.pfr_story.proofs.SpanLaws.{past_upto, LeavesBank, IsTrustedAt, AllOpen, open_none, open_map, same_one, longer_upto, IsOpen, Kept, SparesOpen, KeepsSpans, Kept-moves, none_or_settled, settled_running, IsTrustedStill, still_trusted}

settled_two : (nv : List ℕ) → IsSettled nv → NotOne nv
settled_two nv q fuses f =
    let same : q.fuses ≡ fuses = (let both : Ok q.fuses ≡ Ok fuses = sym q.provisioned ∙ f in cc) in
    subst (λ (x : FusesState). x.profile ≡ Two) same q.two

-- ---- the fuses are migrated
settled_none : (nv : List ℕ) → IsSettled nv → migration_in (fuses_of nv) ≡ []
settled_none nv q = rw (q.provisioned, q.two) refl

profile_left : (nv : List ℕ) (fuses : FusesState) (p : Profile) → length nv ≡ 32768 → fuses_of nv ≡ Ok fuses → fuses.profile ≡ p → NotOne (play nv (migration_by p fuses))
profile_left nv fuses One size f e = λ other g. profile_kept (play nv (migration fuses)) other g ∙ profile_migrated nv fuses size
profile_left nv fuses Two size f e = λ other g.
    let same : fuses ≡ other = (let both : Ok fuses ≡ Ok other = sym f ∙ g in cc) in
    ap (λ (x : FusesState). x.profile) (sym same) ∙ e

not_one_in : (nv : List ℕ) (read : Result FusesState FuseFail) → length nv ≡ 32768 → fuses_of nv ≡ read → NotOne (play nv (migration_in read))
not_one_in nv (Ok fuses) size f = profile_left nv fuses fuses.profile size f refl
not_one_in nv (Err cause) size f = λ other g. absurd (let never : Err cause ≡ Ok other = sym f ∙ g in cc)

pub not_one_then : (story : Story) → length story.nv.start ≡ 32768 → NotOne (store (after (migrated story) story))
not_one_then story size =
    subst NotOne (sym (image_called device.Nv (migration_in (fuses_of (store story))) story))
    (not_one_in (store story) (fuses_of (store story)) (length-play story.nv.start story.nv.ops ∙ size) refl)

-- what is safe for two rules is for the first
safe_first : (G H : Rule) (moves : List Move) (story : Story) → AllSafe (Both G H) moves story → AllSafe G moves story
safe_first G H [] story p = tt
safe_first G H (Says w ∷ moves) story p = (p.0.0, safe_first G H moves (moved_by (Says w) story) p.1)
safe_first G H (Does at op ∷ moves) story p = ((p.0.0.0, λ done t. (p.0.1 done t).0), safe_first G H moves (moved_by (Does at op) story) p.1)
safe_first G H (Asks at ∷ moves) story p = (p.0.0, safe_first G H moves (moved_by (Asks at) story) p.1)

-- ---- a bank whose watch expires by ticks runs
due_by : (s : Standing) (expires : Bool) → (is_running s && expires) ≡ true → s ≡ Running
due_by Running expires e = refl
due_by Off expires e = absurd (let never : false ≡ true = e in cc)
due_by Held expires e = absurd (let never : false ≡ true = e in cc)
due_by Locked expires e = absurd (let never : false ≡ true = e in cc)

due_runs : (b : Bank) (n : ℕ) (story : Story) → is_due b n story ≡ true → standing_of b story.notes ≡ Running
due_runs b n story e = due_by (standing_of b story.notes) _ e

-- ---- a bank's own operations leave its open spans
-- each of these operations leaves what the trust at the span's begin stands on
record LeavesOpen (accepts : Acceptance) (which : Bank) (mine nv : Past) (ops : List Operation) (begin : Counts) : Type 0 where
  within : count_at which begin ≤ length mine.ops
  settled : IsSettled (image_of nv)
  each : (t : IsTrustedAt accepts which mine nv begin) → All (LeavesTrusted t.manifest (layout_of t.fuses.provision which)) ops

bank_left : (which : Bank) (fuses : FusesState) (m : Manifest) (op : Operation) → LeavesTrusted m (layout_of fuses.provision which) op → LeavesBank which fuses m op
bank_left which fuses m op l = record { image = record { area = l.manifest; static = l.static }; recovery = l.recovery }

module _ (accepts : Acceptance) (which : Bank) (mine nv : Past) (op : Operation) (ops : List Operation) (begin : Counts) (l : LeavesOpen accepts which mine nv (op ∷ ops) begin) where
  first_leaves : (t : IsTrustedAt accepts which mine nv begin) → LeavesTrusted t.manifest (layout_of t.fuses.provision which) op
  first_leaves t = All-head (LeavesTrusted t.manifest (layout_of t.fuses.provision which)) op ops (l.each t)

  one_leaves : (t : IsTrustedAt accepts which mine nv begin) → LeavesBank which t.fuses t.manifest op
  one_leaves t = bank_left which t.fuses t.manifest op (first_leaves t)

  torn_one_leaves : (image : List ℕ) (done : Operation) → IsTorn image op done → (t : IsTrustedAt accepts which mine nv begin) → LeavesBank which t.fuses t.manifest done
  torn_one_leaves image done torn t = bank_left which t.fuses t.manifest done (torn_leaves t.manifest (layout_of t.fuses.provision which) image op done torn (first_leaves t))

  rest_leave : LeavesOpen accepts which (with_op mine op) nv ops begin
  rest_leave = record {
    within = omega (arith, l.within, length-append mine.ops (op ∷ []));
    settled = l.settled;
    each = subst (λ (image : List ℕ). (t : IsTrusted image (past_upto nv begin.nv) which accepts) → All (LeavesTrusted t.manifest (layout_of t.fuses.provision which)) ops)
        (sym (longer_upto accepts which mine op (count_at which begin) l.within))
        (λ t. All-tail (LeavesTrusted t.manifest (layout_of t.fuses.provision which)) op ops (l.each t));
  }

counts_here : (which : Bank) (story : Story) → count_at which (counts_of story) ≡ length (past_at (device_of which) story).ops
counts_here bank.Bmc story = refl
counts_here bank.Pch story = refl

abbrev AllLeaveOpen : Acceptance → Bank → List Operation → Story → Type 0
AllLeaveOpen accepts which ops story = AllOpen (LeavesOpen accepts which (past_at (device_of which) story) story.nv ops) (opens_from which [] story.notes)

own_safe : (accepts : Acceptance) (which : Bank) (ops : List Operation) (story : Story) → AllLeaveOpen accepts which ops story → AllSafe (KeepsSpans accepts which) (called (device_of which) ops) story
own_safe accepts which [] story all = (tt, tt)
own_safe accepts bank.Bmc (op ∷ ops) story all = (
  (
    open_map _ _ (λ begin l. record { spares = one_leaves accepts bank.Bmc story.bmc story.nv op ops begin l; settled = l.settled }) (opens_from bank.Bmc [] story.notes) all,
    λ done torn. open_map _ _ (λ begin l. record { spares = torn_one_leaves accepts bank.Bmc story.bmc story.nv op ops begin l _ done torn; settled = l.settled }) (opens_from bank.Bmc [] story.notes) all,
  ),
  own_safe accepts bank.Bmc ops (operated device.Bmc op story) (open_map _ _ (λ begin l. rest_leave accepts bank.Bmc story.bmc story.nv op ops begin l) (opens_from bank.Bmc [] story.notes) all),
)
own_safe accepts bank.Pch (op ∷ ops) story all = (
  (
    open_map _ _ (λ begin l. record { spares = one_leaves accepts bank.Pch story.pch story.nv op ops begin l; settled = l.settled }) (opens_from bank.Pch [] story.notes) all,
    λ done torn. open_map _ _ (λ begin l. record { spares = torn_one_leaves accepts bank.Pch story.pch story.nv op ops begin l _ done torn; settled = l.settled }) (opens_from bank.Pch [] story.notes) all,
  ),
  own_safe accepts bank.Pch ops (operated device.Pch op story) (open_map _ _ (λ begin l. rest_leave accepts bank.Pch story.pch story.nv op ops begin l) (opens_from bank.Pch [] story.notes) all),
)

module _ (accepts : Acceptance) (which : Bank) where
  -- calls where no span is open
  idle_safe : (at : Device) (ops : List Operation) (story : Story) → opens_from which [] story.notes ≡ [] → AllSafe (KeepsSpans accepts which) (called at ops) story
  idle_safe at [] story e = (tt, tt)
  idle_safe at (op ∷ ops) story e = (
    (open_none (SparesOpen accepts which at op story) (opens_from which [] story.notes) e, λ done t. open_none (SparesOpen accepts which at done story) (opens_from which [] story.notes) e),
    idle_safe at ops (operated at op story) (ap (λ (notes : List Note). opens_from which [] notes) (notes_operated at op story) ∙ e),
  )

  -- ---- a bank is brought up
  module _ (b : Bank) where
    -- No span of this bank is open, or the store is settled, before bank b is held; where b is this bank, a store that can be read is
    -- of profile 2.
    record CanBegin (story : Story) : Type 0 where
      pub none : (opens_from which [] story.notes ≡ []) ⊎ IsSettled (store story)
      pub two : same_bank which b ≡ true → NotOne (store story)
      pub size : length (store story) ≡ 32768

    begin_held : (story : Story) → CanBegin story → AtWork accepts which b (noted (what.Held b) story)
    begin_held story c = record { idle = held_idle accepts which which b story c.none; two = c.two; size = c.size }

    brought_safe : (story : Story) → CanBegin story → AllSafe (InWork accepts which) (brought_up accepts b story) story
    brought_safe story c = brought_worked (InWork accepts which) (AtWork accepts which b) accepts b ⊥ (span_table accepts which b Brings) story c.size (λ none. absurd none) ((refl, tt), tt) (begin_held story c)

    begin_told : (that : What) (story : Story) → ((opens : List Counts) → opens_after which that opens ≡ opens) → CanBegin story → CanBegin (noted (λ _. that) story)
    begin_told that story still c = record {
      none = elim c.none [ inl e ↦ inl (opens_told accepts which which (λ _. that) story ∙ still (opens_from which [] story.notes) ∙ e) | inr q ↦ inr q ];
      two = c.two;
      size = c.size;
    }

    expired_kept : (story : Story) → CanBegin story → AllSafe (InWork accepts which) (expired accepts b story) story
    expired_kept story c =
        let told : Story = noted (λ _. what.Expired b (level_at b story)) story in
        expired_worked (InWork accepts which) (AtWork accepts which b) accepts b ⊥ (span_table accepts which b Expires) story c.size (λ none. absurd none) ((tt, tt), tt) ((refl, tt), tt)
        (begin_held told (begin_told (what.Expired b (level_at b story)) story (λ opens. refl) c))

    updating_kept : (intent : Intent) (story : Story) → CanBegin story → AllSafe (InWork accepts which) (updating accepts b intent story) story
    updating_kept intent story c =
        updating_worked (InWork accepts which) (AtWork accepts which b) accepts b ⊥ intent (span_table accepts which b (Updates intent)) story c.size (λ none. absurd none) ((refl, tt), tt) (begin_held story c)

  -- ---- a frame on the SPI bus of a bank
  -- what passes on the bank's own bus is judged by what each open span that began with trust is trusted by
  ruled_open : (frame : List ℕ) (r : Ruling) (op : BusOp) (story : Story) → ruling accepts which story ≡ Some r → ruled which frame r story ≡ Pass op
      → (begin : Counts) → IsOpen accepts which story begin → LeavesOpen accepts which (past_at (device_of which) story) story.nv (bus_ops op) begin
  ruled_open frame r op story found passed begin o =
      let mine : Past = past_at (device_of which) story in
      let counts = counts_here which story in
      let still : (t : IsTrustedAt accepts which mine story.nv begin) → IsTrustedStill accepts which mine story.nv begin t =
      λ t. still_trusted accepts which mine story.nv begin (counts_of story) counts refl o.kept t in
      record {
        within = omega (arith, o.kept.forth, counts);
        settled = o.settled;
        each = λ t.
            let now = still t in
            subst (λ (m : Manifest). All (LeavesTrusted m (layout_of t.fuses.provision which)) (bus_ops op)) now.manifest
            (subst (λ (layout : Layout). All (LeavesTrusted now.trusted.manifest layout) (bus_ops op)) now.layout (ruled_leaves accepts which story frame r op found passed now.trusted));
      }

  frame_safe : (b : Bank) (frame : List ℕ) (r : Ruling) (op : BusOp) (story : Story) → Kept accepts which story → length (store story) ≡ 32768 → ruling accepts b story ≡ Some r → ruled b frame r story ≡ Pass op
      → (same : Bool) → same_bank which b ≡ same → AllSafe (KeepsSpans accepts which) (called (device_of b) (bus_ops op)) story
  frame_safe b frame r op story k size found passed true e =
      let is : b ≡ which = same_one which b e in
      let leaves = open_map _ _ (ruled_open frame r op story (subst (λ (x : Bank). ruling accepts x story ≡ Some r) is found) (subst (λ (x : Bank). ruled x frame r story ≡ Pass op) is passed))
      (opens_from which [] story.notes) k.opened in
      subst (λ (x : Bank). AllSafe (KeepsSpans accepts which) (called (device_of x) (bus_ops op)) story) (sym is) (own_safe accepts which (bus_ops op) story leaves)
  frame_safe b frame r op story k size found passed false e = elim (none_or_settled accepts which story k) [
    | inl none ↦ idle_safe (device_of b) (bus_ops op) story none
    | inr q ↦ safe_first (KeepsSpans accepts which) KeepsTwo (called (device_of b) (bus_ops op)) story (ops_safe accepts which b (bus_ops op) story (record { idle = inr (e, q); two = λ same. settled_two (store story) q; size = size }))
  ]

  passing_safe : (b : Bank) (frame : List ℕ) (story : Story) → Kept accepts which story → length (store story) ≡ 32768 → AllSafe (KeepsSpans accepts which) (filtered accepts b frame story) story
  passing_safe b frame story k size = filtered_safe (KeepsSpans accepts which) accepts b frame story (record {
    blocked = λ cause. (tt, tt);
    calls = λ r op found passed. calls_safe (KeepsSpans accepts which) b op story (frame_safe b frame r op story k size found passed (same_bank which b) refl);
    passed = λ r op found passed. (tt, tt);
  })

  -- ---- the stretches
  -- the spans are kept where the step begins
  record Early (story : Story) : Type 0 where
    pub kept : Kept accepts which story
    pub size : length story.nv.start ≡ 32768

  -- they are kept where work on a bank begins; and where this is so, a store that can be read is of profile 2
  record Late (R : Type 0) (story : Story) : Type 0 where
    pub kept : Kept accepts which story
    pub two : R → NotOne (store story)
    pub size : length (store story) ≡ 32768

  can_begin : (R : Type 0) (b : Bank) (story : Story) → (same_bank which b ≡ true → R) → Late R story → CanBegin b story
  can_begin R b story f p = record { none = none_or_settled accepts which story p.kept; two = λ same. p.two (f same); size = p.size }

  late_moves : (R : Type 0) → Keeps (InWork accepts which) (Late R)
  late_moves R (Says w) story g p = record { kept = Kept-moves accepts which (Says w) story g.0 p.kept; two = p.two; size = p.size }
  late_moves R (Does device.Bmc op) story g p = record { kept = Kept-moves accepts which (Does device.Bmc op) story g.0 p.kept; two = p.two; size = p.size }
  late_moves R (Does device.Pch op) story g p = record { kept = Kept-moves accepts which (Does device.Pch op) story g.0 p.kept; two = p.two; size = p.size }
  late_moves R (Does device.Nv op) story g p = record {
    kept = Kept-moves accepts which (Does device.Nv op) story g.0 p.kept;
    two = λ r. g.1 (p.two r);
    size = store_sized (Does device.Nv op ∷ []) story ∙ p.size;
  }
  late_moves R (Asks at) story g p = p

  module _ (first last : World) where
    -- work on a bank, which is locked where a call fails
    abbrev locking : Bank → Plan → Bool → Stretch
    locking b plan on = record { plan = plan; on_fault = λ device. Says (what.Locked b (fault_of device)) ∷ []; goes_on = on }

    work_kept : (R : Type 0) (b : Bank) (plan : Plan) (on : Bool) → ((story : Story) → Late R story → AllSafe (InWork accepts which) (plan story) story)
        → IsGoodStretch (KeepsSpans accepts which) first last Any (Late R) (locking b plan on) (Late R)
    work_kept R b plan on work = record {
      plan = record {
        safe = λ story p. safe_first (KeepsSpans accepts which) KeepsTwo (plan story) story (work story p.1);
        ends = λ story p. kept_by (InWork accepts which) (Late R) (late_moves R) (plan story) story (safe_whole (InWork accepts which) (plan story) story (work story p.1)) p.1;
      };
      noted = λ at story trace p cut rose. ((refl, tt), tt);
      on = λ at story trace p cut e.
          let there = kept_by (InWork accepts which) (Late R) (late_moves R) trace story (safe_cut (InWork accepts which) at (plan story) trace story (work story p.1) cut) p.1 in
          late_moves R (Says (what.Locked b (fault_of at))) (after trace story) ((refl, tt), tt) there;
    }

    -- once the fuses were read
    bank_kept : (b : Bank) → IsGoodStretch (KeepsSpans accepts which) first last Any (Late (Unit {0})) (bank_stretch accepts b) (Late (Unit {0}))
    bank_kept b = work_kept (Unit {0}) b (brought_up accepts b) true (λ story p. brought_safe b story (can_begin (Unit {0}) b story (λ same. tt) p))

    expiry_kept : (R : Type 0) (b : Bank) → (same_bank which b ≡ true → R) → IsGoodStretch (KeepsSpans accepts which) first last Any (Late R) (expiry_stretch accepts b) (Late R)
    expiry_kept R b f = work_kept R b (expired accepts b) true (λ story p. expired_kept b story (can_begin R b story f p))

    update_kept : (R : Type 0) (b : Bank) (intent : Intent) → (same_bank which b ≡ true → R)
        → IsGoodStretch (KeepsSpans accepts which) first last Any (Late R) (update_stretch accepts b intent) (Late R)
    update_kept R b intent f = work_kept R b (updating accepts b intent) false (λ story p. updating_kept b intent story (can_begin R b story f p))

    migrated_safe : (story : Story) → Kept accepts which story → AllSafe (KeepsSpans accepts which) (migrated story) story
    migrated_safe story k = (
      tt,
      elim (none_or_settled accepts which story k) [
        | inl none ↦ idle_safe device.Nv (migration_in (fuses_of (store story))) story none
        | inr q ↦ subst (λ (ops : List Operation). AllSafe (KeepsSpans accepts which) (called device.Nv ops) story) (sym (settled_none (store story) q)) (tt, tt)
      ],
    )

    fuse_kept : IsGoodStretch (KeepsSpans accepts which) first last Any Early fuse_stretch (Late (Unit {0}))
    fuse_kept = record {
      plan = record {
        safe = λ story p. migrated_safe story p.1.kept;
        ends = λ story p. record {
          kept = kept_by (KeepsSpans accepts which) (Kept accepts which) (Kept-moves accepts which) (migrated story) story
              (safe_whole (KeepsSpans accepts which) (migrated story) story (migrated_safe story p.1.kept)) p.1.kept;
          two = λ any. not_one_then story p.1.size;
          size = store_sized (migrated story) story ∙ length-play story.nv.start story.nv.ops ∙ p.1.size;
        };
      };
      noted = λ at story trace p cut rose. ((refl, tt), ((refl, tt), ((refl, tt), ((refl, tt), tt))));
      on = λ at story trace p cut e. absurd (false≢true e);
    }

    tried_safe : (root : RootSlot) (judged : Result ℕ FuseFail) (story : Story) → (opens_from which [] story.notes ≡ []) ⊎ (judged ≡ Err AlreadyProvisioned)
        → AllSafe (KeepsSpans accepts which) (provisioned_in root judged story) story
    tried_safe root (Ok number) story (inl none) =
        AllSafe-append (KeepsSpans accepts which) (called device.Nv (provision_plan number root)) (Says (λ _. what.Provisioned) ∷ []) story
        (idle_safe device.Nv (provision_plan number root) story none) ((tt, tt), tt)
    tried_safe root (Ok number) story (inr never) = absurd cc
    tried_safe root (Err cause) story p = ((tt, tt), tt)

    provisioned_safe : (root : RootSlot) (story : Story) → Kept accepts which story → AllSafe (KeepsSpans accepts which) (provisioned root story) story
    provisioned_safe root story k = (
      tt,
      tried_safe root (judge_provision (store story) root (length story.bmc.start) (length story.pch.start)) story (elim (none_or_settled accepts which story k) [
        | inl none ↦ inl none
        | inr q ↦ inr (provisioned_refused (store story) root (length story.bmc.start) (length story.pch.start) q.fuses q.provisioned)
      ]),
    )

    provision_kept : (root : RootSlot) → IsGoodStretch (KeepsSpans accepts which) first last Any Early (provision_stretch root) Any
    provision_kept root = record {
      plan = record { safe = λ story p. provisioned_safe root story p.1.kept; ends = λ story p. tt };
      noted = λ at story trace p cut rose. ((refl, tt), ((refl, tt), tt));
      on = λ at story trace p cut e. absurd (false≢true e);
    }

    spi_kept : (b : Bank) (frame : List ℕ) → IsGoodStretch (KeepsSpans accepts which) first last Any Early (spi_stretch accepts b frame) Any
    spi_kept b frame = record {
      plan = record { safe = λ story p. passing_safe b frame story p.1.kept (length-play story.nv.start story.nv.ops ∙ p.1.size); ends = λ story p. tt };
      noted = λ at story trace p cut rose. ((refl, tt), ((refl, tt), tt));
      on = λ at story trace p cut e. tt;
    }

  -- ---- a whole step
  module _ (e : Event) (old new : World) where
    abbrev first : World
    first = begun e old

    within : Between first new first new
    within = record { before = AllMoved-refl first; behind = AllMoved-refl new }

    allows : AllowsLosses (KeepsSpans accepts which) first new
    allows at story fell = ((refl, tt), tt)

    noted_kept : (moves : List Move) → Follows (record { first = moves; stretches = [] }) first new → AllGood (KeepsSpans accepts which) moves (story_of first)
        → Traced (KeepsSpans accepts which) first new
    noted_kept moves t good = noted_along (KeepsSpans accepts which) first new Any (λ w moved. tt) allows first new within moves t good

    single_kept : (stretch : Stretch) (P Q : Story → Type 0) → IsGoodStretch (KeepsSpans accepts which) first new Any P stretch Q → P (story_of first)
        → Follows (record { first = []; stretches = stretch ∷ [] }) first new → Traced (KeepsSpans accepts which) first new
    single_kept stretch P Q good p t = single_along (KeepsSpans accepts which) first new Any (λ w moved. tt) allows first new within stretch P Q good p t

    power_kept : Early (story_of first) → Follows (power_course accepts) first new → Traced (KeepsSpans accepts which) first new
    power_kept p t =
        power_along (KeepsSpans accepts which) first new Any (λ w moved. tt) allows first new within accepts Early (Late (Unit {0})) (Late (Unit {0})) (Late (Unit {0}))
        (fuse_kept first new) (bank_kept first new bank.Bmc) (bank_kept first new bank.Pch) (tt, tt)
        (record { kept = Kept-moves accepts which (Says (λ _. what.Power)) (story_of first) (tt, tt) p.kept; size = p.size }) t

    -- where the bank runs at first, the store is settled
    abbrev RunsAtFirst : Type 0
    RunsAtFirst = standing_of which old.notes.list ≡ Running

    late_first : Early (story_of first) → Late RunsAtFirst (story_of first)
    late_first p = record { kept = p.kept; two = λ runs. settled_two (store (story_of first)) (settled_running accepts which (story_of first) p.kept runs); size = length-play (story_of first).nv.start (story_of first).nv.ops ∙ p.size }

    runs_same : (b : Bank) → standing_of b old.notes.list ≡ Running → same_bank which b ≡ true → RunsAtFirst
    runs_same b runs same = subst (λ (x : Bank). standing_of x old.notes.list ≡ Running) (same_one which b same) runs

    expiry_first : (b : Bank) → standing_of b old.notes.list ≡ Running → IsGoodStretch (KeepsSpans accepts which) first new Any (Late RunsAtFirst) (expiry_stretch accepts b) (Late RunsAtFirst)
    expiry_first b runs = expiry_kept first new RunsAtFirst b (runs_same b runs)

    tick_kept : (n : ℕ) → Early (story_of first) → Follows (tick_course accepts n (story_of old)) first new → Traced (KeepsSpans accepts which) first new
    tick_kept n p t =
        tick_along (KeepsSpans accepts which) first new Any (λ w moved. tt) allows first new within accepts n (story_of old) (Late RunsAtFirst) (Late RunsAtFirst) (Late RunsAtFirst)
        (λ due. expiry_first bank.Bmc (due_runs bank.Bmc n (story_of old) due)) (λ there q. q) (λ due. expiry_first bank.Pch (due_runs bank.Pch n (story_of old) due)) (λ there q. q) (late_first p) t

    boot_kept : (b : Bank) (pass : Bool) → standing_of b old.notes.list ≡ Running → Early (story_of first) → Follows (boot_course accepts b pass (story_of old)) first new
        → Traced (KeepsSpans accepts which) first new
    boot_kept b true runs p t = let stage : Stage = stage_at b (story_of old) in noted_kept (Says (λ _. pass_note b stage (next_stage stage)) ∷ []) t (pass_noted (λ that. KeepsSpans accepts which (Says (λ _. that)) (story_of first)) b stage (next_stage stage) (λ done. (tt, tt)) (λ on. (tt, tt)), tt)
    boot_kept b false runs p t = single_kept (expiry_stretch accepts b) (Late RunsAtFirst) (Late RunsAtFirst) (expiry_first b runs) (late_first p) t

    update_kept_first : (b : Bank) (intent : Intent) → standing_of b old.notes.list ≡ Running → Early (story_of first) → Follows (update_course accepts b intent) first new → Traced (KeepsSpans accepts which) first new
    update_kept_first b intent runs p t =
        single_kept (update_stretch accepts b intent) (Late RunsAtFirst) (Late RunsAtFirst) (update_kept first new RunsAtFirst b intent (runs_same b runs)) (late_first p) t

  module _ (old new : World) where
    taken_kept : (e : Event) → is_idle e (story_of old) ≡ false → Early (story_of (begun e old)) → Follows (taken accepts e (story_of old)) (begun e old) new → Traced (KeepsSpans accepts which) (begun e old) new
    taken_kept event.Power on p t = power_kept event.Power old new p t
    taken_kept event.Off on p t = noted_kept event.Off old new off_course.first t ((refl, tt), tt)
    taken_kept (event.Provision root) on p t = single_kept (event.Provision root) old new (provision_stretch root) Early Any (provision_kept (begun (event.Provision root) old) new root) p t
    taken_kept (event.Spi b frame) on p t = single_kept (event.Spi b frame) old new (spi_stretch accepts b frame) Early Any (spi_kept (begun (event.Spi b frame) old) new b frame) p t
    taken_kept (event.Smbus b frame) on p t =
        let moves : List Move = smbus_judged accepts b frame (story_of old) in
        noted_kept (event.Smbus b frame) old new moves t (safe_whole (KeepsSpans accepts which) moves (story_of (begun (event.Smbus b frame) old))
        (smbus_safe (KeepsSpans accepts which) accepts b frame (record { passed = λ story. (tt, tt); blocked = λ cause story. (tt, tt) }) (story_of old) (story_of (begun (event.Smbus b frame) old))))
    taken_kept (event.Tick n) on p t = tick_kept (event.Tick n) old new n p t
    taken_kept (event.Boot b pass) on p t = boot_kept (event.Boot b pass) old new b pass (taken_boots (standing_of b old.notes.list) (stage_at b (story_of old)) on).0 p t
    taken_kept (event.Update b intent) on p t = update_kept_first (event.Update b intent) old new b intent (taken_runs (standing_of b old.notes.list) on) p t

    Turn-early : (e : Event) → Early (story_of (begun e old)) → Turn accepts e old new → Traced (KeepsSpans accepts which) (begun e old) new
    Turn-early e p t = elim (Turn-cases accepts e old new t) [
      | inl idle ↦ noted_kept e old new ignored.first idle.1 ((tt, tt), tt)
      | inr on ↦ taken_kept e on.0 p on.1
    ]

-- neither the number of the item nor what guards the banks says anything of spans
pub Kept-item : (accepts : Acceptance) (which : Bank) (n : ℕ) (guards : Guards) (story : Story) → Kept accepts which story → Kept accepts which (record story { item = n; guards = guards })
Kept-item accepts bank.Bmc n guards story k = record {
  closed = k.closed;
  opened = open_map (IsOpen accepts bank.Bmc story) (IsOpen accepts bank.Bmc (record story { item = n; guards = guards })) (λ begin o. record { kept = o.kept; settled = o.settled }) (opens_from bank.Bmc [] story.notes) k.opened;
}
Kept-item accepts bank.Pch n guards story k = record {
  closed = k.closed;
  opened = open_map (IsOpen accepts bank.Pch story) (IsOpen accepts bank.Pch (record story { item = n; guards = guards })) (λ begin o. record { kept = o.kept; settled = o.settled }) (opens_from bank.Pch [] story.notes) k.opened;
}

-- Each step keeps the spans of each bank.
pub Turn-spans : (accepts : Acceptance) (which : Bank) (e : Event) (old new : World) → Turn accepts e old new → length old.nv.start ≡ 32768
    → Kept accepts which (story_of old) → Kept accepts which (story_of new)
Turn-spans accepts which e old new t size k =
    let here : Kept accepts which (story_of (begun e old)) = Kept-item accepts which (old.item + 1) (guards_at e old.notes.list old.guards) (story_of old) k in
    Traced-keeps (KeepsSpans accepts which) (Kept accepts which) (Kept-moves accepts which) (begun e old) new
    (Turn-early accepts which old new e (record { kept = here; size = size }) t) here
