-- The rows of signed contents read back, each as the marks that stand in its block.
use Rattle.std.proofs.Common.{◌≡◌, ◌+◌, ◌≤◌, ℕ, List, [], ◌∷◌, ◌++◌, Ok, refl, ap, sym, ◌∙◌, arith}
use Rattle.std.proofs.lemmas.List.{append-nil}
use Rattle.pfr_engine.specs.Rows.{judge_lines, judge_text, lines_in}
use Rattle.pfr_engine.specs.declared.row.Row.{Row}
use Rattle.pfr_engine.specs.declared.row.Row.TheVariants.{Short, Long}
use Rattle.pfr_flash.specs.Names.{manifest_type, capsule_type}
use Rattle.pfr_flash.specs.declared.names.Bank.{Bank}
use Rattle.pfr_flash.specs.declared.names.ContentType.{ContentType}
use Rattle.pfr_description.specs.Banks.{bank_of}
use Rattle.pfr_description.specs.Described.{Description}
use Rattle.pfr_description.specs.declared.form.Form.{Form}
use Rattle.pfr_description.specs.declared.form.Form.TheVariants.{One, Two}
use Rattle.pfr_description.specs.declared.keys.KeyDescription.{KeyDescription}
use Rattle.pfr_description.specs.declared.keys.PublicKey.{PublicKey}
use Rattle.pfr_made.specs.Blocks.{block0_bytes, rows_in, root_row_in, signed_rows, root_signed_row}
use Rattle.pfr_made.specs.Capsules.{capsule_body, capsule_rows}
use Rattle.pfr_made.specs.Form1 as form1
use Rattle.pfr_made.specs.Form2 as form2
use Rattle.pfr_made.specs.Images.{manifest_rows}
use Rattle.pfr_made.specs.Made.{rows_of}
use Rattle.pfr_made.specs.Manifests.{text_of}
use Rattle.pfr_made.specs.Marks.{number_of_curve, marks_of}
use Rattle.pfr_made.specs.Rows.{row_of, long_row_of}
use Rattle.pfr_description.specs.Typed.{IsKeyValue}
use Rattle.pfr_made.proofs.RowsMadeLines.{SpellsRow, one_row, four_front}
use Rattle.pfr_made.proofs.RowsMadeShort.{short_spells}
use Rattle.pfr_made.proofs.RowsMadeLong.{long_said, long_spells}

-- what the root signs of a key
abbrev pub signed_key_in : Form → Description → KeyDescription → List ℕ
signed_key_in One desc key = form1.signed_key desc key
signed_key_in Two desc key = form2.signed_key desc key

-- the row of a key's marks on a message, and what it says
abbrev row_in : Form → Description → PublicKey → List ℕ → List ℕ
row_in One desc key message = row_of (marks_of desc.curve key message)
row_in Two desc key message = long_row_of (number_of_curve desc.curve) (form2.long_marks_of key message)

abbrev pub said_in : Form → Description → PublicKey → List ℕ → Row
said_in One desc key message = Short (marks_of desc.curve key message)
said_in Two desc key message = Long (long_said desc.curve key message)

spells_in : (form : Form) (desc : Description) (key : PublicKey) (message : List ℕ) → IsKeyValue key →
    SpellsRow (row_in form desc key message) (said_in form desc key message)
spells_in One desc key message h = short_spells desc.curve key message h
spells_in Two desc key message h = long_spells desc.curve key message h

rows_in-are : (form : Form) (desc : Description) (key : KeyDescription) (block0 : List ℕ) →
    rows_in form desc key block0 ≡ row_in form desc desc.root (signed_key_in form desc key) ++ row_in form desc key.key block0
unfolding form1.rows_of form2.rows_of
rows_in-are One desc key block0 = refl
rows_in-are Two desc key block0 = refl

root_row_in-is : (form : Form) (desc : Description) (block0 : List ℕ) → root_row_in form desc block0 ≡ row_in form desc desc.root block0
root_row_in-is One desc block0 = refl
root_row_in-is Two desc block0 = refl

-- the one row of a content that the root signs
pub root_row_parses : (desc : Description) (type : ContentType) (content : List ℕ) → IsKeyValue desc.root →
    judge_text (root_signed_row desc type content) ≡ Ok (said_in desc.form desc desc.root (block0_bytes desc.form type content) ∷ [])
unfolding root_signed_row
root_row_parses desc type content root =
    let block0 = block0_bytes desc.form type content in
    ap judge_text (root_row_in-is desc.form desc block0) ∙ one_row _ _ (spells_in desc.form desc desc.root block0 root)

-- what a bank's rows say: the manifest's two, then the capsule's two
abbrev pub bank_said : Description → Bank → List ℕ → List Row
bank_said desc bank active =
    said_in desc.form desc desc.root (signed_key_in desc.form desc (bank_of desc bank).manifest_key)
    ∷ said_in desc.form desc (bank_of desc bank).manifest_key.key (block0_bytes desc.form (manifest_type bank) (text_of (bank_of desc bank) active))
    ∷ said_in desc.form desc desc.root (signed_key_in desc.form desc (bank_of desc bank).capsule_key)
    ∷ said_in desc.form desc (bank_of desc bank).capsule_key.key (block0_bytes desc.form (capsule_type bank) (capsule_body desc bank active)) ∷ []

-- a bank's rows in front of others
pub four_rows_front : (number : ℕ) (desc : Description) (bank : Bank) (active rest : List ℕ) (rows : List Row) → number + 3 ≤ 4096 → IsKeyValue desc.root →
    IsKeyValue (bank_of desc bank).manifest_key.key → IsKeyValue (bank_of desc bank).capsule_key.key →
    judge_lines (number + 1 + 1 + 1 + 1) (lines_in rest) ≡ Ok rows → judge_lines number (lines_in (rows_of desc bank active ++ rest)) ≡ Ok (bank_said desc bank active ++ rows)
unfolding rows_of manifest_rows capsule_rows signed_rows
four_rows_front number desc bank active rest rows few root manifest capsule are =
    let part = bank_of desc bank in
    let first = block0_bytes desc.form (manifest_type bank) (text_of part active) in
    let second = block0_bytes desc.form (capsule_type bank) (capsule_body desc bank active) in
    rw (rows_in-are desc.form desc part.manifest_key first, rows_in-are desc.form desc part.capsule_key second)
    (four_front number _ _ _ _ rest _ _ _ _ rows few
    (spells_in desc.form desc desc.root (signed_key_in desc.form desc part.manifest_key) root) (spells_in desc.form desc part.manifest_key.key first manifest)
    (spells_in desc.form desc desc.root (signed_key_in desc.form desc part.capsule_key) root) (spells_in desc.form desc part.capsule_key.key second capsule) are)

-- and alone
pub four_rows_parse : (desc : Description) (bank : Bank) (active : List ℕ) → IsKeyValue desc.root →
    IsKeyValue (bank_of desc bank).manifest_key.key → IsKeyValue (bank_of desc bank).capsule_key.key →
    judge_text (rows_of desc bank active) ≡ Ok (bank_said desc bank active)
unfolding judge_text
four_rows_parse desc bank active root manifest capsule =
    ap judge_text (sym (append-nil (rows_of desc bank active))) ∙ four_rows_front 1 desc bank active [] [] (omega arith) root manifest capsule refl
