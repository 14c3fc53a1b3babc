-- What holds of what is read of a bank: its lists, its identity and the keys that sign.
use Rattle.std.proofs.Common.{◌≡◌, ◌<◌, ◌^◌, List, [], ◌∷◌, length, Some, None, Result, arith}
use Rattle.std.specs.Prelude.{IfOk, All}
use Rattle.std.proofs.lemmas.List.Elements.{All-nil, All-cons}
use Rattle.toml.specs.Data.{Members}
use Rattle.pfr_flash.specs.declared.names.Bank.{Bank}
use Rattle.pfr_flash.specs.Bytes.{AreBytes}
use Rattle.pfr_fuses.specs.RootSlot.{HasFields}
use Rattle.pfr_description.specs.Keys.{text_in, table_in, extra_in}
use Rattle.pfr_description.specs.Lists.{tables_in, each, staged_in, regions_in, rules_in}
use Rattle.pfr_description.specs.Tables.{greatest, signer_in, layout_in, region_in, rule_in}
use Rattle.pfr_description.specs.Sound.{IsSoundBank, manifest_bit, capsule_bit}
use Rattle.pfr_description.specs.Typed.{IsBankValue, IsRuleValue}
use Rattle.pfr_description.specs.Whole.{identity_in, signers_in, judge_bank, bank_in, bank_keys, table_of}
use Rattle.pfr_description.specs.Described.{BankDescription}
use Rattle.pfr_description.specs.declared.fail.DescWhy.{DescWhy}
use Rattle.pfr_description.specs.declared.field.Field.TheVariants as fields
use Rattle.pfr_description.specs.declared.identity.Identity.{Identity}
use Rattle.pfr_description.specs.declared.keys.KeyDescription.{KeyDescription}
use Rattle.pfr_description.proofs.SoundKeys.{after_part, after_any}
use Rattle.pfr_description.proofs.SoundTables.{after_number, after_bytes, IsSigner, signer_is, layout_is, IsRegion, region_is, rule_is}

-- ---- lists
each_is : {A : Type 0} (P : A → Type 0) (read : Members → Result A DescWhy) → ((table : Members) → IfOk (read table) P) → (tables : List Members) → IfOk (each read tables) (All P)
each_is P read is [] = All-nil P
each_is P read is (table ∷ tables) =
    after_part P (All P) (read table) _ (is table)
    (λ first first_is. after_part (All P) (All P) (each read tables) _ (each_is P read is tables)
    (λ others others_are. All-cons P first others first_is others_are))

regions_are : (bank : Bank) (table : Members) → IfOk (regions_in bank table) (All IsRegion)
unfolding regions_in
regions_are bank table =
    after_any (All IsRegion) (tables_in (Some bank) fields.Regions table) _ (each_is IsRegion (region_in bank) (region_is bank))

rules_are : (bank : Bank) (table : Members) → IfOk (rules_in bank table) (All IsRuleValue)
unfolding rules_in
rules_are bank table =
    after_any (All IsRuleValue) (tables_in (Some bank) fields.Smbus table) _ (each_is IsRuleValue (rule_in bank) (rule_is bank))

-- ---- what the manifest begins with
record IsIdentity (identity : Identity) : Type 0 where
  size : identity.size < 2 ^ 32
  svn : identity.svn < 256
  bkc : identity.bkc < 256
  revision : length identity.revision ≡ 2
  revision_bytes : AreBytes identity.revision
  oem : length identity.oem ≡ 16
  oem_bytes : AreBytes identity.oem

identity_is : (bank : Bank) (table : Members) → IfOk (identity_in bank table) IsIdentity
unfolding identity_in
identity_is bank table =
    after_number IsIdentity bank fields.Size greatest table _
    (λ size size_is. after_number IsIdentity bank fields.Svn 127 table _
    (λ svn svn_is. after_number IsIdentity bank fields.Bkc 255 table _
    (λ bkc bkc_is. after_bytes IsIdentity (Some bank) fields.Revision 2 table _
    (λ revision revision_is. after_bytes IsIdentity (Some bank) fields.Oem 16 table _
    (λ oem oem_is. record {
      size = omega arith;
      svn = omega arith;
      bkc = omega arith;
      revision = revision_is.0;
      revision_bytes = revision_is.1;
      oem = oem_is.0;
      oem_bytes = oem_is.1;
    })))))

-- ---- the keys that sign
record AreSigners (bank : Bank) (signers : KeyDescription × KeyDescription) : Type 0 where
  manifest : IsSigner (manifest_bit bank) signers.0
  capsule : IsSigner (capsule_bit bank) signers.1

signers_are : (bank : Bank) (table : Members) → IfOk (signers_in bank table) (AreSigners bank)
unfolding signers_in
signers_are bank table =
    after_part (IsSigner (manifest_bit bank)) (AreSigners bank) (signer_in bank fields.ManifestKey (manifest_bit bank) table) _
    (signer_is bank fields.ManifestKey (manifest_bit bank) table)
    (λ manifest_key manifest_is. after_part (IsSigner (capsule_bit bank)) (AreSigners bank) (signer_in bank fields.CapsuleKey (capsule_bit bank) table) _
    (signer_is bank fields.CapsuleKey (capsule_bit bank) table)
    (λ capsule_key capsule_is. record { manifest = manifest_is; capsule = capsule_is }))

-- ---- banks
pub record IsBank (bank : Bank) (part : BankDescription) : Type 0 where
  pub values : IsBankValue part
  pub sound : IsSoundBank bank part

judged_is : (bank : Bank) (table : Members) → IfOk (judge_bank bank table) (IsBank bank)
unfolding judge_bank
judged_is bank table =
    after_any (IsBank bank) (text_in (Some bank) fields.Image table) _
    (λ image. after_part IsIdentity (IsBank bank) (identity_in bank table) _ (identity_is bank table)
    (λ identity identity_is. after_part HasFields (IsBank bank) (layout_in bank table) _ (layout_is bank table)
    (λ layout layout_is. after_part (AreSigners bank) (IsBank bank) (signers_in bank table) _ (signers_are bank table)
    (λ signers signers_are. after_any (IsBank bank) (staged_in bank table) _
    (λ staged. after_part (All IsRegion) (IsBank bank) (regions_in bank table) _ (regions_are bank table)
    (λ regions regions_are. after_part (All IsRuleValue) (IsBank bank) (rules_in bank table) _ (rules_are bank table)
    (λ rules rules_are. record {
      values = record {
        size = identity_is.size;
        svn = identity_is.svn;
        bkc = identity_is.bkc;
        revision = identity_is.revision;
        revision_bytes = identity_is.revision_bytes;
        oem = identity_is.oem;
        oem_bytes = identity_is.oem_bytes;
        layout = layout_is;
        manifest_key = signers_are.manifest.value;
        capsule_key = signers_are.capsule.value;
        regions = λ k d fits. (regions_are k d fits).value;
        rules = rules_are;
      };
      sound = record {
        manifest_key = signers_are.manifest.allowed;
        capsule_key = signers_are.capsule.allowed;
        regions = λ k d fits. (regions_are k d fits).brought;
      };
    })))))))

pub bank_is : (bank : Bank) (top : Members) → IfOk (bank_in bank top) (IsBank bank)
unfolding bank_in
bank_is bank top =
    after_any (IsBank bank) (table_in None (table_of bank) top) _
    (λ table. after_part (IsBank bank) (IsBank bank) (judge_bank bank table) _ (judged_is bank table)
    (λ part is. after_any (IsBank bank) (extra_in (Some bank) bank_keys table) _ (λ none. is)))
