-- The description of a demo keeps the rules of descriptions.
use Rattle.std.proofs.Common.{ℕ, zero, suc, ◌<◌, [], ◌∷◌, replicate, refl, arith}
use Rattle.std.proofs.lemmas.List.{length-replicate}
use Rattle.std.proofs.lemmas.List.Elements.{All-nil, All-cons}
use Rattle.pfr_flash.specs.Bytes.{AreBytes}
use Rattle.pfr_flash.proofs.AreBytesLemmas.{AreBytes-nil, AreBytes-cons}
use Rattle.pfr_flash.specs.declared.names.Bank.{Bank}
use Rattle.pfr_flash.specs.declared.names.Bank.TheVariants.{Bmc, Pch}
use Rattle.pfr_description.specs.Sound.{IsBrought, IsSound, IsSoundBank}
use Rattle.pfr_description.specs.Typed.{IsBankValue, IsKeyValue, IsRegionValue, IsRuleValue}
use Rattle.pfr_made.specs.Demo.{IsDemoSize, data_region, demo_bank, demo_description, repeated, static_region}
use Rattle.pfr_made.specs.Fields.{zeros}

-- a byte again and again
repeated-bytes : (count byte : ℕ) → byte < 256 → AreBytes (replicate count byte)
repeated-bytes zero byte h = AreBytes-nil
repeated-bytes (suc count) byte h = AreBytes-cons byte (replicate count byte) h (repeated-bytes count byte h)

repeated_key : (x y : ℕ) → x < 256 → y < 256 → IsKeyValue (repeated x y)
unfolding repeated
repeated_key x y h k = record {
  x = length-replicate {A = ℕ} 48 x;
  y = length-replicate {A = ℕ} 48 y;
  x_bytes = repeated-bytes 48 x h;
  y_bytes = repeated-bytes 48 y k;
}

bank_value : (svn sectors : ℕ) → svn < 256 → IsDemoSize sectors → IsBankValue (demo_bank svn sectors)
unfolding demo_bank zeros
bank_value svn sectors small size = record {
  size = omega (arith, size.most);
  svn = small;
  bkc = omega arith;
  revision = refl;
  revision_bytes = AreBytes-cons 1 (0 ∷ []) (omega arith) (AreBytes-cons 0 [] (omega arith) AreBytes-nil);
  oem = refl;
  oem_bytes = repeated-bytes 16 0 (omega arith);
  layout = record {
    manifest_at = omega arith;
    manifest_len = omega arith;
    recovery_at = omega (arith, size.most);
    staging_at = omega (arith, size.most);
    area_len = omega (arith, size.most);
  };
  manifest_key = record { id = omega arith; permissions = omega arith; key = repeated_key 0x33 0x44 (omega arith) (omega arith) };
  capsule_key = record { id = omega arith; permissions = omega arith; key = repeated_key 0x55 0x66 (omega arith) (omega arith) };
  regions = All-cons IsRegionValue (static_region sectors) (data_region sectors ∷ [])
      (record { start = omega arith; end = omega (arith, size.most); mask = omega arith })
      (All-cons IsRegionValue (data_region sectors) []
      (record { start = omega (arith, size.most); end = omega (arith, size.most); mask = omega arith }) (All-nil IsRegionValue));
  rules = All-nil IsRuleValue;
}

bank_sound : (bank : Bank) (svn sectors : ℕ) → IsSoundBank bank (demo_bank svn sectors)
unfolding demo_bank
bank_sound Bmc svn sectors = record {
  manifest_key = refl;
  capsule_key = refl;
  regions = All-cons IsBrought (static_region sectors) (data_region sectors ∷ []) refl
      (All-cons IsBrought (data_region sectors) [] refl (All-nil IsBrought));
}
bank_sound Pch svn sectors = record {
  manifest_key = refl;
  capsule_key = refl;
  regions = All-cons IsBrought (static_region sectors) (data_region sectors ∷ []) refl
      (All-cons IsBrought (data_region sectors) [] refl (All-nil IsBrought));
}

pub demo_sound : (svn sectors : ℕ) → svn < 256 → IsDemoSize sectors → IsSound (demo_description svn sectors)
unfolding demo_description
demo_sound svn sectors small size =
    let bank = bank_value svn sectors small size in
    record {
      values = record { root = repeated_key 0x11 0x22 (omega arith) (omega arith); bmc = bank; pch = bank };
      bmc = bank_sound Bmc svn sectors;
      pch = bank_sound Pch svn sectors;
    }
