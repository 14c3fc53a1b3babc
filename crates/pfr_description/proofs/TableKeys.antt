-- The keys of a table's map are those of its members.
use Rattle.std.proofs.Common.{◌≡◌, ◌&&◌, Bool, true, false, List, [], ◌∷◌, Option, Result, Ok, Err, String, Global, string_bytes, refl, ap, ◌∙◌, if◌then◌else◌}
use Rattle.std.specs.List.{list_all}
use Rattle.std.specs.Map.{keys_of}
use Rattle.toml.specs.View.{members_view}
use Rattle.toml.specs.declared.value.Value.{Value}
use Rattle.pfr_description.specs.Keys.{is_one_of, only_has, extra_in}
use Rattle.pfr_flash.specs.declared.names.Bank.{Bank}
use Rattle.pfr_description.specs.declared.fail.DescWhy.{DescWhy}
use Rattle.pfr_description.specs.declared.fail.DescWhy.TheVariants.{Extra}
use Rattle.pfr_description.specs.declared.field.Field.{Field}

pub keys_are : (allowed : List Field) (entries : List (String Global × Value))
    → list_all (λ key. is_one_of allowed (string_bytes key)) (keys_of entries) ≡ only_has allowed (members_view entries)
keys_are allowed [] = refl
keys_are allowed (entry ∷ entries) = ap (λ (rest : Bool). is_one_of allowed (string_bytes entry.0) && rest) (keys_are allowed entries)

passes : (why : DescWhy) (b : Bool) → true ≡ b → ◌≡◌ {A = Result (Unit {0}) DescWhy} (Ok tt) (if b then Ok tt else Err why)
passes why true h = refl
passes why false h = cc

fails : (why : DescWhy) (b : Bool) → false ≡ b → ◌≡◌ {A = Result (Unit {0}) DescWhy} (Err why) (if b then Ok tt else Err why)
fails why true h = cc
fails why false h = refl

-- what the test of the keys answers
pub no_extra : (bank : Option Bank) (allowed : List Field) (entries : List (String Global × Value))
    → true ≡ list_all (λ key. is_one_of allowed (string_bytes key)) (keys_of entries)
    → ◌≡◌ {A = Result (Unit {0}) DescWhy} (Ok tt) (extra_in bank allowed (members_view entries))
unfolding extra_in
no_extra bank allowed entries h = passes (Extra bank) (only_has allowed (members_view entries)) (h ∙ keys_are allowed entries)

pub some_extra : (bank : Option Bank) (allowed : List Field) (entries : List (String Global × Value))
    → false ≡ list_all (λ key. is_one_of allowed (string_bytes key)) (keys_of entries)
    → ◌≡◌ {A = Result (Unit {0}) DescWhy} (Err (Extra bank)) (extra_in bank allowed (members_view entries))
unfolding extra_in
some_extra bank allowed entries h = fails (Extra bank) (only_has allowed (members_view entries)) (h ∙ keys_are allowed entries)
