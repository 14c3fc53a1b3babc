-- Moves that take no fuse of the store back, and that leave the slot which provisions it.
use Rattle.std.proofs.Common.{◌≡◌, ◌∙◌, refl, sym, ap, subst, arith, ℕ, ◌+◌, ◌*◌, ◌≤◌, ◌<◌, List, [], ◌∷◌, ◌++◌, length, length-append, get_or, ◌⊎◌, inl, inr, Result, Ok, Err}
use Rattle.std.proofs.lemmas.Bool.{cases_lt}
use Rattle.std.proofs.lemmas.List.{take_all, take-append-le}
use Rattle.pfr_flash.specs.Bytes.{AreBytes}
use Rattle.pfr_flash.specs.FlashState.{size_of}
use Rattle.pfr_flash.specs.Operation.{Operation, Program, applied, play, play_first}
use Rattle.pfr_flash.specs.Range.{IsWithin, SameOutside, OnlyClears, place_of, len_of}
use Rattle.pfr_flash.specs.declared.names.Bank.{Bank}
use Rattle.pfr_flash.specs.declared.names.Bank.TheVariants as bank
use Rattle.pfr_flash.specs.declared.names.ContentType.{ContentType}
use Rattle.pfr_flash.specs.declared.names.ContentType.TheVariants.{PchManifest, PchCapsule, BmcManifest, BmcCapsule}
use Rattle.pfr_flash.specs.declared.names.Device.TheVariants as device
use Rattle.pfr_flash.proofs.BytesLemmas.{get_or-bytes_at}
use Rattle.pfr_flash.proofs.PlayLemmas.{length-play, length-applied, play_push}
use Rattle.pfr_flash.proofs.RangeLemmas.{SameOutside-applied, SameOutside-wider, IsTorn-within, OnlyClears-program, OnlyClears-torn}
use Rattle.pfr_fuses.specs.Changes.{migration}
use Rattle.pfr_fuses.specs.FuseMap.{IsSigning, profile_of, floor_at, floor_width, row_at, row_width}
use Rattle.pfr_fuses.specs.FusesOf.{fuses_of}
use Rattle.pfr_fuses.specs.FusesState.{FusesState}
use Rattle.pfr_fuses.specs.Growth.{Grows, NeverGoesBack, KeepsProvision}
use Rattle.pfr_fuses.specs.Provisioning.{judge_provision, provision_plan}
use Rattle.pfr_fuses.specs.RootSlot.{IsSlot, slot_bytes}
use Rattle.pfr_fuses.specs.Slots.{IsProvisionedBy, IsUnset, IsSet, slot_at}
use Rattle.pfr_fuses.specs.declared.fuse_fail.FuseFail.{FuseFail}
use Rattle.pfr_fuses.specs.declared.profile.Profile.{Profile}
use Rattle.pfr_fuses.specs.declared.profile.Profile.TheVariants.{One, Two}
use Rattle.pfr_fuses.specs.declared.root_slot.RootSlot.{RootSlot}
use Rattle.pfr_fuses.proofs.BlankLemmas.{judged-ok}
use Rattle.pfr_fuses.proofs.GrowthLemmas.{Grows-clears, then_grows, profile-outside, slots-outside, IsProvisionedBy-same}
use Rattle.pfr_fuses.proofs.MigrationLemmas.{Holds, Grows-holds}
use Rattle.pfr_fuses.proofs.RootSlotLemmas.{length-slot}
use Rattle.pfr_fuses.proofs.StaysLemmas.{AreOutside, floor_bits-outside, row_bits-outside, row_in_sector}
use Rattle.pfr_jobs.specs.Log.{log_at}
use Rattle.pfr_jobs.proofs.BeginLaw.{log_low, log_high}
use Rattle.pfr_report.specs.declared.note.What.TheVariants as what
use Rattle.pfr_story.specs.JobPlans.{JobNotes}
use Rattle.pfr_story.specs.Plans.{store, migration_by, migration_in, migrated, provisioned_in, provisioned}
use Rattle.pfr_story.specs.Safety.{Rule, IsSafe, AllSafe, Keeps}
use Rattle.pfr_story.specs.Story.{Past, Story, Says, Does, Asks, with_op, operated, image_of, device_of, called}
use Rattle.pfr_story.specs.World.{World, story_of}
use Rattle.pfr_story.proofs.FuseLaws.{part_holds}
use Rattle.pfr_story.proofs.JobRules.{IsInLog, AllowsJobs}
use Rattle.pfr_story.proofs.JobWalks.{TellsJobs}
use Rattle.pfr_story.proofs.SafetyLaws.{AllSafe-append, image_operated, image_did, called_safe}
use Rattle.pfr_story.proofs.Traces.{Traced, Traced-keeps}

-- ---- the rule
-- the new store has each fuse of the old one, and a slot that provisions the old one provisions it with the same bytes
pub record IsGrown (old new : List ℕ) : Type 0 where
  pub fuses : Grows old new
  pub provision : (number : ℕ) → IsProvisionedBy old number → IsProvisionedBy new number × (slot_at new number ≡ slot_at old number)

-- an operation of a store of 32,768 bytes leaves it so
abbrev pub Growing : Rule
Growing (Says w) story = Unit {0}
Growing (Asks which) story = Unit {0}
Growing (Does device.Bmc op) story = Unit {0}
Growing (Does device.Pch op) story = Unit {0}
Growing (Does device.Nv op) story = length (store story) ≡ 32768 → IsGrown (store story) (applied (store story) op)

grown_refl : (image : List ℕ) → IsGrown image image
grown_refl image = record { fuses = record { floors = λ b k bit. bit; cancels = λ type id bit. bit }; provision = λ number by. (by, refl) }

then_grown : (a b c : List ℕ) → IsGrown a b → IsGrown b c → IsGrown a c
then_grown a b c p q = record {
  fuses = then_grows a b c p.fuses q.fuses;
  provision = λ number by. let middle = p.provision number by in let end = q.provision number middle.0 in (end.0, end.1 ∙ middle.1);
}

-- ---- between any two counts
-- from a count on the store has grown from each moment to each later one
record GrowsFrom (count : ℕ) (past : Past) : Type 0 where
  size : length past.start ≡ 32768
  grown : (m n : ℕ) → count ≤ m → m ≤ n → n ≤ length past.ops → IsGrown (play_first m past.start past.ops) (play_first n past.start past.ops)

module _ (count : ℕ) (past : Past) (op : Operation) (g : GrowsFrom count past) (h : IsGrown (image_of past) (applied (image_of past) op)) where
  abbrev more : List Operation
  more = past.ops ++ op ∷ []

  before : (n : ℕ) → n ≤ length past.ops → play_first n past.start more ≡ play_first n past.start past.ops
  before n low = ap (λ (ops : List Operation). play past.start ops) (take-append-le n past.ops (op ∷ []) low)

  last : (n : ℕ) → length past.ops < n → play_first n past.start more ≡ applied (image_of past) op
  last n high = ap (λ (ops : List Operation). play past.start ops) (take_all n more (omega (arith, high, length-append past.ops (op ∷ [])))) ∙ play_push past.start past.ops op

  to_now : (m : ℕ) → count ≤ m → m ≤ length past.ops → IsGrown (play_first m past.start past.ops) (image_of past)
  to_now m low order =
      subst (λ (image : List ℕ). IsGrown (play_first m past.start past.ops) image) (ap (λ (ops : List Operation). play past.start ops) (take_all (length past.ops) past.ops (omega arith)))
      (g.grown m (length past.ops) low order (omega arith))

  by_place : (m n : ℕ) → count ≤ m → m ≤ n → ((length past.ops < m) ⊎ (m ≤ length past.ops)) → ((length past.ops < n) ⊎ (n ≤ length past.ops))
      → IsGrown (play_first m past.start more) (play_first n past.start more)
  by_place m n low order (inl late) q = rw (last m late, last n (omega (arith, late, order))) (grown_refl (applied (image_of past) op))
  by_place m n low order (inr early) (inr soon) = rw (before m early, before n soon) (g.grown m n low order soon)
  by_place m n low order (inr early) (inl late) = rw (before m early, last n late) (then_grown _ (image_of past) _ (to_now m low early) h)

  grown_more : GrowsFrom count (with_op past op)
  grown_more = record { size = g.size; grown = λ m n low order high. by_place m n low order (cases_lt (length past.ops) m) (cases_lt (length past.ops) n) }

grows_on : (count : ℕ) → Keeps Growing (λ story. GrowsFrom count story.nv)
grows_on count (Says w) story g p = p
grows_on count (Asks which) story g p = p
grows_on count (Does device.Bmc op) story g p = p
grows_on count (Does device.Pch op) story g p = p
grows_on count (Does device.Nv op) story g p = grown_more count story.nv op p (g (length-play story.nv.start story.nv.ops ∙ p.size))

-- no other moment is at hand
one_grown : (past : Past) (m n : ℕ) → m ≡ n → IsGrown (play_first m past.start past.ops) (play_first n past.start past.ops)
one_grown past m n e = subst (λ (k : ℕ). IsGrown (play_first m past.start past.ops) (play_first k past.start past.ops)) e (grown_refl (play_first m past.start past.ops))

-- Where all moves are good by this rule, no fuse is taken back, and the provision stays, between any two counts.
pub grown : (old new : World) → size_of old.nv ≡ 32768 → Traced Growing old new → NeverGoesBack old.nv new.nv × KeepsProvision old.nv new.nv
grown old new size t =
    let first : GrowsFrom (length old.nv.ops) (story_of old).nv = record { size = size; grown = λ m n low order high. one_grown (story_of old).nv m n (omega arith) } in
    let all = Traced-keeps Growing (λ story. GrowsFrom (length old.nv.ops) story.nv) (grows_on (length old.nv.ops)) old new t first in
    (record { grows = λ m n low order high. (all.grown m n low order high).fuses }, record { keeps = λ m n number low order high by. (all.grown m n low order high).provision number by })

-- ---- what is done behind the slots
slots_kept : (from len : ℕ) (old new : List ℕ) → 2048 ≤ from → length old ≡ 32768 → length new ≡ length old → SameOutside from len old new → (number : ℕ) → IsProvisionedBy old number
    → IsProvisionedBy new number × (slot_at new number ≡ slot_at old number)
slots_kept from len old new low size same outside number by =
    let slots : (k : ℕ) → k < 8 → slot_at new k ≡ slot_at old k = slots-outside from len old new low size same outside in
    (IsProvisionedBy-same old new number slots by, slots number by.within)

pub within_outside : (from len : ℕ) (image : List ℕ) (op : Operation) → IsWithin from len op → SameOutside from len image (applied image op)
within_outside from len image op w = SameOutside-wider (place_of op) (len_of op) from len image (applied image op) w.low w.high (SameOutside-applied image op)

-- neither log has a byte of any fuse, in either profile
pub floor_apart : (b : Bank) (p : Profile) (other : Bank) → AreOutside (log_at b) 0x3000 (floor_at p other) (floor_width p)
floor_apart b One bank.Bmc = inl (omega (arith, log_low b))
floor_apart b One bank.Pch = inl (omega (arith, log_low b))
floor_apart b Two bank.Bmc = inr (omega (arith, log_high b))
floor_apart b Two bank.Pch = inr (omega (arith, log_high b))

pub row_low : (type : ContentType) → IsSigning type → row_at One type + 16 ≤ 0x1000
row_low PchManifest s = omega arith
row_low PchCapsule s = omega arith
row_low BmcManifest s = omega arith
row_low BmcCapsule s = omega arith
row_low type s = absurd s

pub row_apart : (b : Bank) (p : Profile) (type : ContentType) → IsSigning type → AreOutside (log_at b) 0x3000 (row_at p type) (row_width p)
row_apart b One type s = inl (omega (arith, log_low b, row_low type s))
row_apart b Two type s = inr (omega (arith, log_high b, (row_in_sector type s).0))

-- what is done in a log leaves all of them
pub log_grown : (b : Bank) (image : List ℕ) (op : Operation) → IsInLog b op → length image ≡ 32768 → IsGrown image (applied image op)
log_grown b image op w size =
    let new : List ℕ = applied image op in
    let same : length new ≡ length image = length-applied image op in
    let outside : SameOutside (log_at b) 0x3000 image new = within_outside (log_at b) 0x3000 image op w in
    let profile : profile_of new ≡ profile_of image = profile-outside (log_at b) 0x3000 image new (inl (omega (arith, log_low b))) outside in
    record {
      fuses = record {
        floors = λ other k. (floor_bits-outside (log_at b) 0x3000 image new other size same profile (floor_apart b (profile_of image) other) outside k).1;
        cancels = λ type id. (row_bits-outside (log_at b) 0x3000 image new type size same profile (λ s. row_apart b (profile_of image) type s) outside id).1;
      };
      provision = slots_kept (log_at b) 0x3000 image new (omega (arith, log_low b)) size same outside;
    }

-- and what only clears bits in sector 7 adds to them
pub cleared_grown : (image : List ℕ) (op : Operation) → IsWithin 0x7000 4096 op → OnlyClears image (applied image op) → length image ≡ 32768 → IsGrown image (applied image op)
cleared_grown image op w clears size =
    let new : List ℕ = applied image op in
    let outside : SameOutside 0x7000 4096 image new = within_outside 0x7000 4096 image op w in
    record {
      fuses = Grows-clears image new (profile-outside 0x7000 4096 image new (inl (omega arith)) outside) clears;
      provision = slots_kept 0x7000 4096 image new (omega arith) size (length-applied image op) outside;
    }

-- ---- what a job does
pub floor_in_sector : (b : Bank) → (0x7000 ≤ floor_at Two b) × (floor_at Two b + 16 ≤ 0x8000)
floor_in_sector bank.Bmc = (omega arith, omega arith)
floor_in_sector bank.Pch = (omega arith, omega arith)

pub own_growing : (b : Bank) (op : Operation) (story : Story) → Growing (Does (device_of b) op) story
own_growing bank.Bmc op story = tt
own_growing bank.Pch op story = tt

pub jobs_grow : (b : Bank) → AllowsJobs Growing b
jobs_grow b = record {
  asks = λ which story own. tt;
  works = λ op story. own_growing b op story;
  logs = λ op story own size. log_grown b (store story) op own size;
  raises = λ op story raise size.
      let at = floor_in_sector b in
      cleared_grown (store story) op (record { low = omega (arith, at.0, raise.within.low); high = omega (arith, at.1, raise.within.high) }) raise.clears size;
}

pub jobs_grow_told : (b : Bank) (notes : JobNotes) → TellsJobs Growing b notes
jobs_grow_told b notes = record {
  resumed = λ kind story. tt;
  given_up = λ story. tt;
  restored = λ level story. tt;
  updated = λ dynamic svn story. tt;
  recovery_updated = λ svn story. tt;
}

-- ---- the fuses are migrated
held_grown : (first : List ℕ) (fuses : FusesState) (old new : List ℕ) → Holds first fuses old → Holds first fuses new → IsGrown old new
held_grown first fuses old new h k =
    let slots : (n : ℕ) → n < 8 → slot_at new n ≡ slot_at old n = λ n below. k.slots n below ∙ sym (h.slots n below) in
    record { fuses = Grows-holds first fuses old new h k; provision = λ number by. (IsProvisionedBy-same old new number slots by, slots number by.within) }

module _ (story : Story) (size : length (store story) ≡ 32768) (bytes : AreBytes (store story)) where
  by_profile : (p : Profile) (fuses : FusesState) → fuses_of (store story) ≡ Ok fuses → fuses.profile ≡ p → AllSafe Growing (called device.Nv (migration_by p fuses)) story
  by_profile One fuses f one =
      called_safe Growing device.Nv (λ later. Holds (store story) fuses (store later))
      (λ op later p q long. held_grown (store story) fuses (store later) (applied (store later) op) p (subst (λ (image : List ℕ). Holds (store story) fuses image) (image_operated device.Nv op later) q))
      (λ later. tt) (migration fuses) story
      (λ added part. subst (λ (image : List ℕ). Holds (store story) fuses image) (sym (image_did device.Nv added story)) (part_holds (store story) fuses added size bytes f one part))
  by_profile Two fuses f two = (tt, tt)

  by_fuses : (read : Result FusesState FuseFail) → fuses_of (store story) ≡ read → AllSafe Growing (called device.Nv (migration_in read)) story
  by_fuses (Ok fuses) f = by_profile fuses.profile fuses f refl
  by_fuses (Err cause) f = (tt, tt)

  pub migration_grows : AllSafe Growing (migrated story) story
  migration_grows = (tt, by_fuses (fuses_of (store story)) refl)

-- ---- the platform is provisioned
-- where no slot is set, an operation that only clears bits of the slots takes nothing back
unset_grown : (image : List ℕ) (op : Operation) → IsUnset image → IsWithin 0 2048 op → OnlyClears image (applied image op) → IsGrown image (applied image op)
unset_grown image op unset w clears = record {
  fuses = Grows-clears image (applied image op) (profile-outside 0 2048 image (applied image op) (inr (omega arith)) (within_outside 0 2048 image op w)) clears;
  provision = λ number by. absurd (unset.gates number by.within by.gate);
}

-- bytes before the gate of a slot set no gate
module _ (image : List ℕ) (number : ℕ) (bytes : List ℕ) (long : length bytes ≡ 72) where
  abbrev filled : List ℕ
  filled = applied image (Program (256 * number) bytes)

  by_order : (k : ℕ) → ((k < number) ⊎ (number ≤ k)) → (256 * k + 255 < 256 * number) ⊎ (256 * number + length bytes ≤ 256 * k + 255)
  by_order k (inl less) = inl (omega (arith, less))
  by_order k (inr more) = inr (omega (arith, more, long))

  same_gate : (k : ℕ) → get_or (slot_at filled k) 255 0 ≡ get_or (slot_at image k) 255 0
  same_gate k =
      get_or-bytes_at filled (256 * k) 256 255 0 (omega arith) ∙ (SameOutside-applied image (Program (256 * number) bytes)).stays (256 * k + 255) (by_order k (cases_lt k number))
      ∙ sym (get_or-bytes_at image (256 * k) 256 255 0 (omega arith))

  still_unset : IsUnset image → IsUnset filled
  still_unset unset = record { gates = λ k below. λ (set : IsSet (slot_at filled k)). unset.gates k below (λ (e : get_or (slot_at image k) 255 0 ≡ 255). set (same_gate k ∙ e)) }

-- a program of the slots, whole or torn
slot_safe : (at : ℕ) (bytes : List ℕ) (story : Story) → at + length bytes ≤ 2048 → IsUnset (store story) → IsSafe Growing (Does device.Nv (Program at bytes)) story
slot_safe at bytes story inside unset =
    let op : Operation = Program at bytes in (
      λ size. unset_grown (store story) op unset (record { low = omega arith; high = omega (arith, inside) }) (OnlyClears-program (store story) at bytes (omega (arith, size, inside))),
      λ done t size.
          let same = IsTorn-within (store story) op done t in
          unset_grown (store story) done unset (record { low = omega arith; high = omega (arith, inside, same.0, same.1) }) (OnlyClears-torn (store story) at bytes done t),
    )

pub provision_grows : (root : RootSlot) (story : Story) → IsSlot root → AllSafe Growing (provisioned root story) story
provision_grows root story slot = (tt, by_judged (judge_provision (store story) root (length story.bmc.start) (length story.pch.start)) refl)
  where
    by_judged : (judged : Result ℕ FuseFail) → judge_provision (store story) root (length story.bmc.start) (length story.pch.start) ≡ judged → AllSafe Growing (provisioned_in root judged story) story
    by_judged (Ok number) j =
        let can = judged-ok (store story) root (length story.bmc.start) (length story.pch.start) number j in
        let below = can.slot.within in
        let long = length-slot root slot in
        let first : Operation = Program (256 * number) (slot_bytes root) in
        let unset : IsUnset (store (operated device.Nv first story)) =
        subst IsUnset (sym (image_operated device.Nv first story)) (still_unset (store story) number (slot_bytes root) long can.unset) in
        AllSafe-append Growing (called device.Nv (provision_plan number root)) (Says (λ _. what.Provisioned) ∷ []) story (
          slot_safe (256 * number) (slot_bytes root) story (omega (arith, below, long)) can.unset,
          (slot_safe (256 * number + 255) (0 ∷ []) (operated device.Nv first story) (omega (arith, below)) unset, (tt, tt)),
        ) (tt, tt)
    by_judged (Err cause) j = (tt, tt)
