-- Work that is a job, where the contents don't matter: which devices it calls, and which bytes of the store it may touch.
use Rattle.std.proofs.Common.{◌≡◌, refl, arith, ℕ, ◌+◌, ◌/◌, ◌≤◌, ◌<◌, Bool, true, false, not, if◌then◌else◌, List, [], ◌∷◌, ◌++◌, length, inl, inr, Option}
use Rattle.std.specs.Prelude.{nat_le, ◌-◌}
use Rattle.std.proofs.Math.Nat.{div-lt_iff_lt-mul}
use Rattle.pfr_flash.specs.FuseRow.{clearing, fuse_byte}
use Rattle.pfr_flash.specs.Operation.{Operation, Program, IsTorn, applied}
use Rattle.pfr_flash.specs.Range.{IsWithin, AllWithin, OnlyClears}
use Rattle.pfr_flash.specs.declared.names.Bank.{Bank}
use Rattle.pfr_flash.specs.declared.names.Bank.TheVariants as bank
use Rattle.pfr_flash.specs.declared.names.Device.{Device}
use Rattle.pfr_flash.specs.declared.names.Device.TheVariants as device
use Rattle.pfr_flash.proofs.RangeLemmas.{IsTorn-within, OnlyClears-program, OnlyClears-torn}
use Rattle.pfr_fuses.specs.Changes.{raise_plan}
use Rattle.pfr_fuses.specs.FuseMap.{floor_at}
use Rattle.pfr_fuses.specs.FusesState.{FusesState, floor_of}
use Rattle.pfr_fuses.specs.declared.profile.Profile.TheVariants.{Two}
use Rattle.pfr_jobs.specs.Log.{log_at, spent_in, selector, current_at, current_page, last_gated}
use Rattle.pfr_jobs.specs.LogPlans.{mark_by, mark_plan, finish_by, finish_plan}
use Rattle.pfr_jobs.specs.LogState.{is_marked}
use Rattle.pfr_jobs.proofs.LogLaws.{LastOf, last_of, nothing, found, page_inside}
use Rattle.pfr_rebuilt.specs.Passing.{group_pages, left_pages, heeding, ignoring}
use Rattle.pfr_strokes.specs.Deeds.{Deed, Asks as AsksSide, Does as DoesSide, called as called_side, ends_group, page_deeds, marked_by, unmarked}
use Rattle.pfr_strokes.specs.Strokes.{strokes}
use Rattle.pfr_strokes.specs.declared.side.Side.TheVariants as side
use Rattle.pfr_strokes.proofs.ReplacedLaws.{IsOneOf}
use Rattle.pfr_story.specs.Deeds.{deed_moves}
use Rattle.pfr_story.specs.Plans.{store}
use Rattle.pfr_story.specs.Safety.{Rule, IsSafe, AllSafe}
use Rattle.pfr_story.specs.Story.{Story, Does, Asks, operated, called, device_of}
use Rattle.pfr_story.proofs.BringRules.{IsOwn}

-- ---- what a job does to the store
-- it is in the log of the bank
abbrev pub IsInLog : Bank → Operation → Type 0
IsInLog b op = IsWithin (log_at b) 0x3000 op

abbrev pub AllInLog : Bank → List Operation → Type 0
AllInLog b ops = AllWithin (log_at b) 0x3000 ops

pub torn_within : (from len : ℕ) (image : List ℕ) (op done : Operation) → IsTorn image op done → IsWithin from len op → IsWithin from len done
torn_within from len image op done t w = let same = IsTorn-within image op done t in record { low = omega (arith, w.low, same.0); high = omega (arith, w.high, same.0, same.1) }

-- or it clears bits in the row of its floor
pub record IsRaise (b : Bank) (image : List ℕ) (op : Operation) : Type 0 where
  pub within : IsWithin (floor_at Two b) 16 op
  pub clears : OnlyClears image (applied image op)

pub finish_own : (nv : List ℕ) (b : Bank) → AllInLog b (finish_plan nv b)
unfolding finish_plan
finish_own nv b = by_last (last_gated (current_page nv b) 64) (last_of (current_page nv b) 64)
  where
    by_last : (last : Option ℕ) → LastOf (current_page nv b) 64 last → AllInLog b (finish_by (current_at nv b) last)
    by_last _ (nothing none) = tt
    by_last _ (found k below gated above) =
        (record { low = omega arith; high = omega (arith, below, page_inside b (spent_in (selector nv b))) }, tt)

pub mark_own : (nv : List ℕ) (b : Bank) (group : ℕ) → group < 128 → AllInLog b (mark_plan nv b group)
unfolding mark_plan
mark_own nv b group small = by_set (is_marked nv b group)
  where
    by_last : (last : Option ℕ) → LastOf (current_page nv b) 64 last → AllInLog b (mark_by (current_at nv b) last group)
    by_last _ (nothing none) = tt
    by_last _ (found k below gated above) =
        (record { low = omega arith; high = omega (arith, below, small, page_inside b (spent_in (selector nv b))) }, tt)

    by_set : (set : Bool) → AllInLog b (if set then [] else mark_by (current_at nv b) (last_gated (current_page nv b) 64) group)
    by_set true = tt
    by_set false = by_last (last_gated (current_page nv b) 64) (last_of (current_page nv b) 64)

-- ---- deeds
abbrev pub IsOwnDeed : Bank → Deed → Type 0
IsOwnDeed b (AsksSide s) = Unit {0}
IsOwnDeed b (DoesSide side.Bank op) = Unit {0}
IsOwnDeed b (DoesSide side.Store op) = IsInLog b op

abbrev pub AllOwnDeeds : Bank → List Deed → Type 0
AllOwnDeeds b [] = Unit {0}
AllOwnDeeds b (deed ∷ deeds) = IsOwnDeed b deed × AllOwnDeeds b deeds

own_append : (b : Bank) (deeds more : List Deed) → AllOwnDeeds b deeds → AllOwnDeeds b more → AllOwnDeeds b (deeds ++ more)
own_append b [] more h k = k
own_append b (deed ∷ deeds) more h k = (h.0, own_append b deeds more h.1 k)

own_bank : (b : Bank) (ops : List Operation) → AllOwnDeeds b (called_side side.Bank ops)
own_bank b [] = (tt, tt)
own_bank b (op ∷ ops) = (tt, own_bank b ops)

own_store : (b : Bank) (ops : List Operation) → AllInLog b ops → AllOwnDeeds b (called_side side.Store ops)
own_store b [] own = (tt, tt)
own_store b (op ∷ ops) own = (own.0, own_store b ops own.1)

own_pages : (b : Bank) (content : ℕ → List ℕ) (group : ℕ) (mark : ℕ → List Deed) (pages : List ℕ) → ((page : ℕ) → IsOneOf page pages → AllOwnDeeds b (mark (page / group)))
    → AllOwnDeeds b (page_deeds content group mark pages)
unfolding page_deeds
own_pages b content group mark [] marks = tt
own_pages b content group mark (page ∷ pages) marks =
    own_append b (called_side side.Bank (strokes page (content page))) ((if ends_group group page pages then mark (page / group) else []) ++ page_deeds content group mark pages)
    (own_bank b (strokes page (content page)))
    (own_append b (if ends_group group page pages then mark (page / group) else []) (page_deeds content group mark pages) (by_end (ends_group group page pages))
    (own_pages b content group mark pages (λ n one. marks n (inr one))))
  where
    by_end : (ends : Bool) → AllOwnDeeds b (if ends then mark (page / group) else [])
    by_end true = marks page (inl refl)
    by_end false = tt

-- a page of a bank is in one of 128 groups
pub group_few : (size page : ℕ) → page < size / 4096 → page / group_pages size < 128
group_few size page few =
    let some : 0 < group_pages size = omega arith in
    (div-lt_iff_lt-mul some).1 (omega (arith, few))

one_left : (marked : ℕ → Bool) (group : ℕ) (pages : List ℕ) (page : ℕ) → IsOneOf page (left_pages marked group pages) → IsOneOf page pages
one_left marked group [] page one = elim one [ ]
one_left marked group (first ∷ pages) page one = by_mark (not (marked (first / group))) one (λ there. one_left marked group pages page there)
  where
    by_mark : (t : Bool) → IsOneOf page (if t then first ∷ left_pages marked group pages else left_pages marked group pages) → (IsOneOf page (left_pages marked group pages) → IsOneOf page pages)
        → IsOneOf page (first ∷ pages)
    by_mark true (inl e) more = inl e
    by_mark true (inr there) more = inr (more there)
    by_mark false there more = inr (more there)

-- a pass over pages of a bank of this size
pub heeding_own : (b : Bank) (nv : List ℕ) (content : ℕ → List ℕ) (size : ℕ) (pages : List ℕ) → ((page : ℕ) → IsOneOf page pages → page < size / 4096)
    → AllOwnDeeds b (heeding b nv content (group_pages size) pages)
heeding_own b nv content size pages inside = (
  tt,
  own_pages b content (group_pages size) (marked_by (mark_plan nv b)) (left_pages (is_marked nv b) (group_pages size) pages)
      (λ page one.
      let few = group_few size page (inside page (one_left (is_marked nv b) (group_pages size) pages page one)) in
      own_append b (called_side side.Store (mark_plan nv b (page / group_pages size))) (AsksSide side.Bank ∷ []) (own_store b (mark_plan nv b (page / group_pages size)) (mark_own nv b (page / group_pages size) few)) (tt, tt)),
)

pub ignoring_own : (b : Bank) (content : ℕ → List ℕ) (group : ℕ) (pages : List ℕ) → AllOwnDeeds b (ignoring content group pages)
ignoring_own b content group pages = (tt, own_pages b content group unmarked pages (λ page one. tt))

-- ---- what is allowed where the contents don't matter
-- all calls of the bank's device and of the store are good, and all that a job does to the store
pub record AllowsJobs (G : Rule) (b : Bank) : Type 0 where
  pub asks : (which : Device) (story : Story) → IsOwn b which → G (Asks which) story
  pub works : (op : Operation) (story : Story) → G (Does (device_of b) op) story
  pub logs : (op : Operation) (story : Story) → IsInLog b op → G (Does device.Nv op) story
  pub raises : (op : Operation) (story : Story) → IsRaise b (store story) op → G (Does device.Nv op) story

module _ (G : Rule) (b : Bank) (h : AllowsJobs G b) where
  store_safe : (op : Operation) (story : Story) → IsInLog b op → IsSafe G (Does device.Nv op) story
  store_safe op story own = (h.logs op story own, λ done t. h.logs done story (torn_within (log_at b) 0x3000 (store story) op done t own))

  pub calls_allowed : (ops : List Operation) (story : Story) → AllInLog b ops → AllSafe G (called device.Nv ops) story
  calls_allowed [] story own = (h.asks device.Nv story (inr refl), tt)
  calls_allowed (op ∷ ops) story own = (store_safe op story own.0, calls_allowed ops (operated device.Nv op story) own.1)

  -- a raise of the floor to at most 128
  pub raise_allowed : (fuses : FusesState) (svn : ℕ) (story : Story) → svn ≤ 128 → length (store story) ≡ 32768 → AllSafe G (called device.Nv (raise_plan (floor_of fuses b) b svn)) story
  raise_allowed fuses svn story few size = by_test (nat_le svn (floor_of fuses b))
    where
      low : (c : Bank) → floor_at Two c + 16 ≤ 32768
      low bank.Bmc = omega arith
      low bank.Pch = omega arith

      by_test : (t : Bool) → AllSafe G (called device.Nv (if t then [] else clearing (floor_at Two b) (svn - 1))) story
      by_test true = (h.asks device.Nv story (inr refl), tt)
      by_test false =
          let at : ℕ = floor_at Two b + (svn - 1) / 8 in
          let op : Operation = Program at (fuse_byte (svn - 1) ∷ []) in
          let inside : at + 1 ≤ length (store story) = omega (arith, size, few, low b) in
          let within : IsWithin (floor_at Two b) 16 op = record { low = omega arith; high = omega (arith, few) } in (
            (
              h.raises op story (record { within = within; clears = OnlyClears-program (store story) at (fuse_byte (svn - 1) ∷ []) inside }),
              λ done t. h.raises done story (record {
                within = torn_within (floor_at Two b) 16 (store story) op done t within;
                clears = OnlyClears-torn (store story) at (fuse_byte (svn - 1) ∷ []) done t;
              }),
            ),
            (h.asks device.Nv (operated device.Nv op story) (inr refl), tt),
          )

  pub deeds_allowed : (deeds : List Deed) (story : Story) → AllOwnDeeds b deeds → AllSafe G (deed_moves b deeds) story
  deeds_allowed [] story own = tt
  deeds_allowed (AsksSide side.Bank ∷ deeds) story own = (h.asks (device_of b) story (inl refl), deeds_allowed deeds story own.1)
  deeds_allowed (AsksSide side.Store ∷ deeds) story own = (h.asks device.Nv story (inr refl), deeds_allowed deeds story own.1)
  deeds_allowed (DoesSide side.Bank op ∷ deeds) story own = ((h.works op story, λ done t. h.works done story), deeds_allowed deeds (operated (device_of b) op story) own.1)
  deeds_allowed (DoesSide side.Store op ∷ deeds) story own = (store_safe op story own.0, deeds_allowed deeds (operated device.Nv op story) own.1)
