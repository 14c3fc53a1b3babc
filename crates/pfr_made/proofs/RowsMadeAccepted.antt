-- What an engine that accepts the rows of a bank is known to accept: the marks in both blocks.
use Rattle.std.proofs.Common.{◌≡◌, ℕ, true, List, [], ◌∷◌, ◌++◌, Ok, refl}
use Rattle.std.proofs.lemmas.List.Elements.{All-head, recursion_from_All}
use Rattle.pfr_engine.specs.Acceptance.{Acceptance}
use Rattle.pfr_engine.specs.Rows.{judge_text}
use Rattle.pfr_engine.specs.declared.row.Row.{Row}
use Rattle.pfr_flash.specs.Names.{manifest_type, capsule_type}
use Rattle.pfr_flash.specs.declared.names.Bank.{Bank}
use Rattle.pfr_flash.specs.declared.names.Bank.TheVariants.{Bmc, Pch}
use Rattle.pfr_flash.specs.declared.names.ContentType.{ContentType}
use Rattle.pfr_description.specs.Banks.{bank_of}
use Rattle.pfr_description.specs.Described.{Description}
use Rattle.pfr_description.specs.declared.form.Form.{Form}
use Rattle.pfr_description.specs.declared.form.Form.TheVariants.{One, Two}
use Rattle.pfr_description.specs.declared.keys.KeyDescription.{KeyDescription}
use Rattle.pfr_description.specs.declared.keys.PublicKey.{PublicKey}
use Rattle.pfr_made.specs.Accepting.{AcceptsRow, AcceptsText}
use Rattle.pfr_made.specs.Blocks.{block0_bytes, root_signed_row}
use Rattle.pfr_made.specs.Capsules.{capsule_body}
use Rattle.pfr_made.specs.Form2 as form2
use Rattle.pfr_made.specs.Made.{rows_of}
use Rattle.pfr_made.specs.Manifests.{text_of}
use Rattle.pfr_made.specs.Marks.{number_of_curve, marks_of}
use Rattle.pfr_description.specs.Typed.{IsKeyValue, IsBankValue, IsValue}
use Rattle.pfr_made.proofs.RowsMadeTexts.{signed_key_in, said_in, root_row_parses, four_rows_parse}

-- the engine accepts the key's marks on the message
abbrev pub AcceptsShort : Acceptance → Description → PublicKey → List ℕ → Type 0
AcceptsShort accepts desc key message = accepts.ask (marks_of desc.curve key message) ≡ true

abbrev pub AcceptsLong : Acceptance → Description → PublicKey → List ℕ → Type 0
AcceptsLong accepts desc key message =
    accepts.long (number_of_curve desc.curve) (key.x ++ key.y) message ((form2.long_marks_of key message).r ++ (form2.long_marks_of key message).s) ≡ true

abbrev pub AcceptsIn : Form → Acceptance → Description → PublicKey → List ℕ → Type 0
AcceptsIn One accepts desc key message = AcceptsShort accepts desc key message
AcceptsIn Two accepts desc key message = AcceptsLong accepts desc key message

-- the root's marks on the key, and the key's on Block 0
pub record AcceptsBlock (form : Form) (accepts : Acceptance) (desc : Description) (signer : KeyDescription) (type : ContentType) (content : List ℕ) : Type 0 where
  pub on_key : AcceptsIn form accepts desc desc.root (signed_key_in form desc signer)
  pub on_block0 : AcceptsIn form accepts desc signer.key (block0_bytes desc.form type content)

-- of a bank: the manifest's block and the capsule's
pub record AcceptsBank (form : Form) (accepts : Acceptance) (desc : Description) (bank : Bank) (active : List ℕ) : Type 0 where
  pub manifest : AcceptsBlock form accepts desc (bank_of desc bank).manifest_key (manifest_type bank) (text_of (bank_of desc bank) active)
  pub capsule : AcceptsBlock form accepts desc (bank_of desc bank).capsule_key (capsule_type bank) (capsule_body desc bank active)

accepted_in : (form : Form) (accepts : Acceptance) (desc : Description) (key : PublicKey) (message : List ℕ) →
    AcceptsRow accepts (said_in form desc key message) → AcceptsIn form accepts desc key message
accepted_in One accepts desc key message h = h
accepted_in Two accepts desc key message h = h message refl

module _ (accepts : Acceptance) (text : List ℕ) (h : AcceptsText accepts text) where
  of_one : (a : Row) → judge_text text ≡ Ok (a ∷ []) → AcceptsRow accepts a
  of_one a is = All-head (AcceptsRow accepts) a [] (h (a ∷ []) is)

  of_four : (a b c d : Row) → judge_text text ≡ Ok (a ∷ b ∷ c ∷ d ∷ []) →
      AcceptsRow accepts a × AcceptsRow accepts b × AcceptsRow accepts c × AcceptsRow accepts d
  of_four a b c d is =
      let all = recursion_from_All (AcceptsRow accepts) (a ∷ b ∷ c ∷ d ∷ []) (h (a ∷ b ∷ c ∷ d ∷ []) is) in
      (all.0, all.1.0, all.1.1.0, all.1.1.1.0)

-- of one content that the root signs
pub accepted_root : (accepts : Acceptance) (desc : Description) (type : ContentType) (content : List ℕ) →
    IsKeyValue desc.root → AcceptsText accepts (root_signed_row desc type content) → AcceptsIn desc.form accepts desc desc.root (block0_bytes desc.form type content)
accepted_root accepts desc type content root h =
    accepted_in desc.form accepts desc desc.root (block0_bytes desc.form type content)
    (of_one accepts (root_signed_row desc type content) h _ (root_row_parses desc type content root))

accepted : (accepts : Acceptance) (desc : Description) (bank : Bank) (active : List ℕ) →
    IsKeyValue desc.root → IsBankValue (bank_of desc bank) → AcceptsText accepts (rows_of desc bank active) → AcceptsBank desc.form accepts desc bank active
accepted accepts desc bank active root value h =
    let part = bank_of desc bank in
    let all = of_four accepts (rows_of desc bank active) h _ _ _ _ (four_rows_parse desc bank active root value.manifest_key.key value.capsule_key.key) in
    let first = block0_bytes desc.form (manifest_type bank) (text_of part active) in
    let second = block0_bytes desc.form (capsule_type bank) (capsule_body desc bank active) in
    record {
      manifest = record {
        on_key = accepted_in desc.form accepts desc desc.root (signed_key_in desc.form desc part.manifest_key) all.0;
        on_block0 = accepted_in desc.form accepts desc part.manifest_key.key first all.1;
      };
      capsule = record {
        on_key = accepted_in desc.form accepts desc desc.root (signed_key_in desc.form desc part.capsule_key) all.2;
        on_block0 = accepted_in desc.form accepts desc part.capsule_key.key second all.3;
      };
    }

pub bank_value : (desc : Description) (bank : Bank) → IsValue desc → IsBankValue (bank_of desc bank)
unfolding bank_of
bank_value desc Bmc h = h.bmc
bank_value desc Pch h = h.pch

-- of a bank, in either form
pub accepted_rows : (accepts : Acceptance) (desc : Description) (bank : Bank) (active : List ℕ) → IsValue desc →
    AcceptsText accepts (rows_of desc bank active) → AcceptsBank desc.form accepts desc bank active
accepted_rows accepts desc bank active h = accepted accepts desc bank active h.root (bank_value desc bank h)
