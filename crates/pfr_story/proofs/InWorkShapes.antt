-- What each operation of the store leaves of the logs, the floors and the cancelled keys.
use Rattle.std.proofs.Common.{◌≡◌, ◌≢◌, ◌⊎◌, refl, sym, subst, arith, ℕ, ◌+◌, ◌≤◌, List, length, inl, inr}
use Rattle.pfr_flash.specs.Operation.{Operation, applied}
use Rattle.pfr_flash.specs.Range.{SameOutside, IsWithin, Leaves}
use Rattle.pfr_flash.specs.declared.names.Bank.{Bank}
use Rattle.pfr_flash.specs.declared.names.Bank.TheVariants as bank
use Rattle.pfr_flash.specs.declared.names.ContentType.{ContentType}
use Rattle.pfr_flash.proofs.LeavingLemmas.{left_bytes}
use Rattle.pfr_flash.proofs.PlayLemmas.{length-applied}
use Rattle.pfr_fuses.specs.FuseMap.{IsSigning, profile_of, floor_at, floor_width, row_at, row_width}
use Rattle.pfr_fuses.specs.declared.profile.Profile.{Profile}
use Rattle.pfr_fuses.specs.declared.profile.Profile.TheVariants.{One, Two}
use Rattle.pfr_fuses.proofs.GrowthLemmas.{profile-outside}
use Rattle.pfr_fuses.proofs.ProvisionLemmas.{KeepsFuses-slots}
use Rattle.pfr_fuses.proofs.StaysLemmas.{AreOutside, floor_bits-outside, row_bits-outside, floors_apart, rows_apart, floor_in_sector, row_in_sector}
use Rattle.pfr_jobs.specs.Log.{log_at}
use Rattle.pfr_jobs.proofs.BeginLaw.{log_low, log_high}
use Rattle.pfr_report.specs.declared.note.Note.{Note}
use Rattle.pfr_script.specs.declared.event.Event.{Event}
use Rattle.pfr_script.specs.declared.event.Intent.TheVariants.{Cert}
use Rattle.pfr_story.specs.InWork.{IsInWork, SameLog, ChangesInWork}
use Rattle.pfr_story.specs.Promises.{IsUpdateTo}
use Rattle.pfr_story.proofs.JobGrowth.{within_outside, floor_apart, row_apart, row_low}
use Rattle.pfr_story.proofs.JobRules.{IsInLog}

-- ---- where the fuses of a profile lie
low_floor : (which : Bank) → floor_at One which + 8 ≤ 0x1000
low_floor bank.Bmc = omega arith
low_floor bank.Pch = omega arith

floor_off : (b which : Bank) → which ≢ b → (p : Profile) → AreOutside (floor_at Two b) 16 (floor_at p which) (floor_width p)
floor_off b which apart One = inl (omega (arith, low_floor which, (floor_in_sector b).0))
floor_off b which apart Two = floors_apart b which apart

floor_row_off : (b : Bank) (p : Profile) (type : ContentType) → IsSigning type → AreOutside (floor_at Two b) 16 (row_at p type) (row_width p)
floor_row_off b One type s = inl (omega (arith, row_low type s, (floor_in_sector b).0))
floor_row_off b Two type s = inr (omega (arith, (row_in_sector type s).0, (floor_in_sector b).1))

row_floor_off : (type : ContentType) → IsSigning type → (p : Profile) (which : Bank) → AreOutside (row_at Two type) 32 (floor_at p which) (floor_width p)
row_floor_off type s One which = inl (omega (arith, low_floor which, (row_in_sector type s).0))
row_floor_off type s Two which = inl (omega (arith, (floor_in_sector which).1, (row_in_sector type s).0))

row_row_off : (type other : ContentType) → IsSigning type → other ≢ type → (p : Profile) → IsSigning other → AreOutside (row_at Two type) 32 (row_at p other) (row_width p)
row_row_off type other s apart One t = inl (omega (arith, row_low other t, (row_in_sector type s).0))
row_row_off type other s apart Two t = rows_apart type other s t apart

-- a bank is this one, or another
this_or_other : (b which : Bank) → (which ≡ b) ⊎ (which ≢ b)
this_or_other bank.Bmc bank.Bmc = inl refl
this_or_other bank.Bmc bank.Pch = inr (λ e. cc)
this_or_other bank.Pch bank.Bmc = inr (λ e. cc)
this_or_other bank.Pch bank.Pch = inl refl

log_off : (b which : Bank) → which ≢ b → (op : Operation) → IsInLog b op → Leaves (log_at which) 0x3000 op
log_off bank.Bmc bank.Bmc apart op w = absurd (apart refl)
log_off bank.Bmc bank.Pch apart op w = inl (omega (arith, w.high))
log_off bank.Pch bank.Bmc apart op w = inr (omega (arith, w.low))
log_off bank.Pch bank.Pch apart op w = absurd (apart refl)

module _ (e : Event) (notes : List Note) (count : ℕ) (image : List ℕ) (op : Operation) (size : length image ≡ 32768) where
  abbrev after_op : List ℕ
  after_op = applied image op

  abbrev Changes : Type 0
  Changes = ChangesInWork e notes count image (applied image op)

  same : length after_op ≡ length image
  same = length-applied image op

  log_same : (which : Bank) → Leaves (log_at which) 0x3000 op → SameLog which image after_op
  log_same which leaves = left_bytes image op (log_at which) 0x3000 leaves (omega (arith, size, log_high which))

  -- in the log of a bank in work
  pub log_changes : (b : Bank) → IsInWork b count notes → IsInLog b op → Changes
  log_changes b work w =
      let outside : SameOutside (log_at b) 0x3000 image after_op = within_outside (log_at b) 0x3000 image op w in
      let profile : profile_of after_op ≡ profile_of image = profile-outside (log_at b) 0x3000 image after_op (inl (omega (arith, log_low b))) outside in
      record {
        logs = λ which. elim (this_or_other b which) [ inl is ↦ inr (subst (λ (c : Bank). IsInWork c count notes) (sym is) work) | inr apart ↦ inl (log_same which (log_off b which apart op w)) ];
        floors = λ which. inl (λ k. floor_bits-outside (log_at b) 0x3000 image after_op which size same profile (floor_apart b (profile_of image) which) outside k);
        rows = inl (λ type id. row_bits-outside (log_at b) 0x3000 image after_op type size same profile (λ s. row_apart b (profile_of image) type s) outside id);
      }

  -- in its floor
  pub floor_changes : (b : Bank) → IsInWork b count notes → IsWithin (floor_at Two b) 16 op → Changes
  floor_changes b work w =
      let at : ℕ = floor_at Two b in
      let outside : SameOutside at 16 image after_op = within_outside at 16 image op w in
      let profile : profile_of after_op ≡ profile_of image = profile-outside at 16 image after_op (inl (omega (arith, (floor_in_sector b).0))) outside in
      record {
        logs = λ which. inl (log_same which (inr (omega (arith, w.low, log_high which, (floor_in_sector b).0))));
        floors = λ which. elim (this_or_other b which) [
          | inl is ↦ inr (subst (λ (c : Bank). IsInWork c count notes) (sym is) work)
          | inr apart ↦ inl (λ k. floor_bits-outside at 16 image after_op which size same profile (floor_off b which apart (profile_of image)) outside k)
        ];
        rows = inl (λ type id. row_bits-outside at 16 image after_op type size same profile (λ s. floor_row_off b (profile_of image) type s) outside id);
      }

  -- in the row of a type
  pub row_changes : (b : Bank) → IsInWork b count notes → IsUpdateTo b Cert e → (type : ContentType) → IsSigning type → IsWithin (row_at Two type) 32 op → Changes
  row_changes b work update type s w =
      let at : ℕ = row_at Two type in
      let outside : SameOutside at 32 image after_op = within_outside at 32 image op w in
      let profile : profile_of after_op ≡ profile_of image = profile-outside at 32 image after_op (inl (omega (arith, (row_in_sector type s).0))) outside in
      record {
        logs = λ which. inl (log_same which (inr (omega (arith, w.low, log_high which, (row_in_sector type s).0))));
        floors = λ which. inl (λ k. floor_bits-outside at 32 image after_op which size same profile (row_floor_off type s (profile_of image) which) outside k);
        rows = inr (b, update, work, type, λ other apart id. row_bits-outside at 32 image after_op other size same profile (row_row_off type other s apart (profile_of image)) outside id);
      }

  -- in the slots of a provision
  pub slot_changes : IsWithin 0 2048 op → Changes
  slot_changes w =
      let keeps = KeepsFuses-slots image after_op size same (within_outside 0 2048 image op w) in
      record { logs = λ which. inl (log_same which (inl (omega (arith, w.high, log_low which)))); floors = λ which. inl (keeps.floors which); rows = inl keeps.cancels }
