-- What is written of a manifest is its text.
use Rattle.std.proofs.Common.{◌≡◌, ℕ, ◌-◌, List, [], ◌++◌, length, replicate, sym, ap, append_assoc, map}
use Rattle.std.specs.List.{flat_map}
use Rattle.pfr_manifest.specs.Spelling.{header_bytes, region_bytes, rule_bytes}
use Rattle.pfr_made.specs.Fields.{blanks, filled}
use Rattle.pfr_made.specs.Manifests.{region_of, rule_of, entry_bytes, manifest_length, manifest_with, manifest_of, text_of}
use Rattle.pfr_description.specs.Described.{BankDescription}

filled_parts : (n : ℕ) (h a b : List ℕ)
    → filled n (h ++ (a ++ b)) ≡ (h ++ a ++ b) ++ replicate (n - length (h ++ a ++ b)) 255
unfolding filled blanks
filled_parts n h a b = ap (λ (xs : List ℕ). xs ++ replicate (n - length xs) 255) (sym (append_assoc h a b))

pub text_made : (part : BankDescription) (active : List ℕ)
    → filled (manifest_length part active) (header_bytes (manifest_with part (manifest_length part active) [] []) ++ entry_bytes part active)
    ≡ text_of part active
unfolding text_of manifest_of entry_bytes header_bytes
text_made part active =
    filled_parts (manifest_length part active) (header_bytes (manifest_with part (manifest_length part active) [] []))
    (flat_map region_bytes (map (region_of active) part.regions)) (flat_map rule_bytes (map rule_of part.smbus))
