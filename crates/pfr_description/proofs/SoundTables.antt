-- What holds of what is read of a table: keys, layouts, regions and rules.
use Rattle.std.proofs.Common.{◌≡◌, ℕ, ◌≤◌, ◌==◌, ◌&&◌, true, not, is_some, List, Option, Some, None, Result, arith}
use Rattle.std.specs.Prelude.{IfOk}
use Rattle.std.specs.Int.{bit_at}
use Rattle.std.proofs.lemmas.Bool.{eqb-true}
use Rattle.toml.specs.Data.{Members}
use Rattle.pfr_flash.specs.declared.names.Bank.{Bank}
use Rattle.pfr_fuses.specs.RootSlot.{HasFields}
use Rattle.pfr_flash.specs.Judging.{◌>>=◌, known}
use Rattle.pfr_description.specs.Keys.{number_in, bytes_in, text_in, table_in, extra_in}
use Rattle.pfr_description.specs.Tables.{greatest, point_in, root_in, root_keys, signer_in, signer_keys, layout_in, hash_in, pages_named, is_kept, pages_in, region_in, region_keys, rule_in, rule_keys}
use Rattle.pfr_description.specs.Sound.{IsBrought}
use Rattle.pfr_description.specs.Typed.{IsKeyValue, IsSignerValue, IsRegionValue, IsRuleValue}
use Rattle.pfr_description.specs.declared.fail.DescWhy.TheVariants.{Value}
use Rattle.pfr_description.specs.declared.field.Field.{Field}
use Rattle.pfr_description.specs.declared.field.Field.TheVariants as fields
use Rattle.pfr_description.specs.declared.keys.KeyDescription.{KeyDescription}
use Rattle.pfr_description.specs.declared.region.HashKind.{HashKind}
use Rattle.pfr_description.specs.declared.region.PageUse.{PageUse}
use Rattle.pfr_description.specs.declared.region.RegionDescription.{RegionDescription}
use Rattle.pfr_description.proofs.SoundKeys.{AreCounted, after_part, after_any, after_test, number_is, bytes_are}

-- a number of a table, and what is read after it
pub after_number : {B : Type 0} (P : B → Type 0) (bank : Bank) (key : Field) (most : ℕ) (table : Members) (rest : ℕ → Result B _)
    → ((number : ℕ) → number ≤ most → IfOk (rest number) P) → IfOk (number_in (Some bank) key most table >>= rest) P
after_number P bank key most table rest h =
    after_part (λ (number : ℕ). number ≤ most) P (number_in (Some bank) key most table) rest (number_is (Some bank) key most table) h

-- bytes of a table, and what is read after them
pub after_bytes : {B : Type 0} (P : B → Type 0) (bank : Option Bank) (key : Field) (count : ℕ) (table : Members) (rest : List ℕ → Result B _)
    → ((bytes : List ℕ) → AreCounted count bytes → IfOk (rest bytes) P) → IfOk (bytes_in bank key count table >>= rest) P
after_bytes P bank key count table rest h =
    after_part (AreCounted count) P (bytes_in bank key count table) rest (bytes_are bank key count table) h

-- ---- keys
pub point_is : (bank : Option Bank) (table : Members) → IfOk (point_in bank table) IsKeyValue
point_is bank table =
    after_bytes IsKeyValue bank fields.X 48 table _
    (λ x x_is. after_bytes IsKeyValue bank fields.Y 48 table _
    (λ y y_is. record { x = x_is.0; y = y_is.0; x_bytes = x_is.1; y_bytes = y_is.1 }))

pub root_is : (top : Members) → IfOk (root_in top) IsKeyValue
root_is top =
    after_any IsKeyValue (table_in None fields.Root top) _
    (λ table. after_part IsKeyValue IsKeyValue (point_in None table) _ (point_is None table)
    (λ point is. after_any IsKeyValue (extra_in None root_keys table) _ (λ none. is)))

-- a key that may sign
pub record IsSigner (bit : ℕ) (signer : KeyDescription) : Type 0 where
  pub value : IsSignerValue signer
  pub allowed : bit_at signer.permissions bit ≡ 1

pub signer_is : (bank : Bank) (key : Field) (bit : ℕ) (part : Members) → IfOk (signer_in bank key bit part) (IsSigner bit)
signer_is bank key bit part =
    after_any (IsSigner bit) (table_in (Some bank) key part) _
    (λ table. after_number (IsSigner bit) bank fields.Id 255 table _
    (λ id id_is. after_number (IsSigner bit) bank fields.Permissions greatest table _
    (λ permissions permissions_are. after_test (IsSigner bit) (Value (Some bank) fields.Permissions) (bit_at permissions bit == 1) _
    (λ allowed. after_part IsKeyValue (IsSigner bit) (point_in (Some bank) table) _ (point_is (Some bank) table)
    (λ point point_is. after_any (IsSigner bit) (extra_in (Some bank) signer_keys table) _
    (λ none. record {
      value = record { id = omega arith; permissions = omega arith; key = point_is };
      allowed = eqb-true (bit_at permissions bit) 1 allowed;
    }))))))

-- ---- layouts
pub layout_is : (bank : Bank) (table : Members) → IfOk (layout_in bank table) HasFields
layout_is bank table =
    after_number HasFields bank fields.ManifestAt greatest table _
    (λ manifest_at a. after_number HasFields bank fields.ManifestLen greatest table _
    (λ manifest_len b. after_number HasFields bank fields.RecoveryAt greatest table _
    (λ recovery_at c. after_number HasFields bank fields.StagingAt greatest table _
    (λ staging_at d. after_number HasFields bank fields.AreaLen greatest table _
    (λ area_len e. record {
      manifest_at = omega arith;
      manifest_len = omega arith;
      recovery_at = omega arith;
      staging_at = omega arith;
      area_len = omega arith;
    })))))

-- ---- regions and rules
-- what a capsule brings of a region with this hash
abbrev AreBrought : Option HashKind → PageUse → Type 0
AreBrought hash pages = not (is_some hash && is_kept pages) ≡ true

pages_are : (bank : Bank) (hash : Option HashKind) (table : Members) → IfOk (pages_in bank hash table) (AreBrought hash)
pages_are bank hash table =
    after_any (AreBrought hash) (text_in (Some bank) fields.Pages table) _
    (λ text. after_any (AreBrought hash) (known (Value (Some bank) fields.Pages) (pages_named text)) _
    (λ pages. after_test (AreBrought hash) (Value (Some bank) fields.Pages) (not (is_some hash && is_kept pages)) _ (λ allowed. allowed)))

pub record IsRegion (region : RegionDescription) : Type 0 where
  pub value : IsRegionValue region
  pub brought : IsBrought region

pub region_is : (bank : Bank) (table : Members) → IfOk (region_in bank table) IsRegion
region_is bank table =
    after_number IsRegion bank fields.Start greatest table _
    (λ from from_is. after_number IsRegion bank fields.End greatest table _
    (λ upto upto_is. after_number IsRegion bank fields.Mask 255 table _
    (λ mask mask_is. after_any IsRegion (hash_in bank table) _
    (λ hash. after_part (AreBrought hash) IsRegion (pages_in bank hash table) _ (pages_are bank hash table)
    (λ pages brought. after_any IsRegion (extra_in (Some bank) region_keys table) _
    (λ none. record { value = record { start = omega arith; end = omega arith; mask = omega arith }; brought = brought }))))))

pub rule_is : (bank : Bank) (table : Members) → IfOk (rule_in bank table) IsRuleValue
rule_is bank table =
    after_number IsRuleValue bank fields.Bus 255 table _
    (λ bus bus_is. after_number IsRuleValue bank fields.Rule 255 table _
    (λ rule rule_is. after_number IsRuleValue bank fields.Address 255 table _
    (λ address address_is. after_bytes IsRuleValue (Some bank) fields.Commands 32 table _
    (λ commands commands_are. after_any IsRuleValue (extra_in (Some bank) rule_keys table) _
    (λ none. record {
      bus = omega arith;
      rule = omega arith;
      address = omega arith;
      commands = commands_are.0;
      command_bytes = commands_are.1;
    })))))
