-- The engine of the rows of both banks accepts each bank's rows, so what is made of both banks is a platform for it.
use Rattle.std.proofs.Common.{◌≡◌, ℕ, List, [], ◌++◌, get_or, All, Ok, refl, ap, sym, subst, ◌∙◌, arith}
use Rattle.std.specs.Prelude.{Contains}
use Rattle.std.proofs.lemmas.List.{append-nil}
use Rattle.std.proofs.lemmas.List.Elements.{Contains-get_or, Contains-append_left, Contains-append_right}
use Rattle.pfr_engine.specs.Accepting.{acceptance}
use Rattle.pfr_engine.specs.Rows.{judge_lines, judge_text, lines_in}
use Rattle.pfr_engine.specs.declared.row.Row.{Row}
use Rattle.pfr_flash.specs.declared.names.Bank.{Bank}
use Rattle.pfr_flash.specs.declared.names.Bank.TheVariants.{Bmc, Pch}
use Rattle.pfr_description.specs.Banks.{bank_of}
use Rattle.pfr_description.specs.Described.{Description}
use Rattle.pfr_description.specs.Sound.{IsSound}
use Rattle.pfr_description.specs.Typed.{IsValue}
use Rattle.pfr_made.specs.Accepting.{AcceptsText}
use Rattle.pfr_made.specs.Made.{active_image, flash_of, judge_bank, rows_of}
use Rattle.pfr_made.specs.Trust.{IsPlatform}
use Rattle.pfr_made.proofs.EngineMade.{rows_accepted}
use Rattle.pfr_made.proofs.RowsMadeAccepted.{bank_value}
use Rattle.pfr_made.proofs.RowsMadeTexts.{bank_said, four_rows_front, four_rows_parse}
use Rattle.pfr_made.proofs.WorthMade.{worthy_made}

-- the BMC's four rows, then the PCH's
pub both_rows_parse : (desc : Description) (a b : List ℕ) → IsValue desc →
    judge_text (rows_of desc Bmc a ++ rows_of desc Pch b) ≡ Ok (bank_said desc Bmc a ++ bank_said desc Pch b)
unfolding judge_text bank_of
both_rows_parse desc a b is =
    let last : judge_lines 5 (lines_in (rows_of desc Pch b)) ≡ Ok (bank_said desc Pch b) =
    ap (λ (text : List ℕ). judge_lines 5 (lines_in text)) (sym (append-nil (rows_of desc Pch b)))
    ∙ four_rows_front 5 desc Pch b [] [] (omega arith) is.root is.pch.manifest_key.key is.pch.capsule_key.key refl in
    four_rows_front 1 desc Bmc a (rows_of desc Pch b) (bank_said desc Pch b) (omega arith) is.root is.bmc.manifest_key.key is.bmc.capsule_key.key last

-- an engine that has a bank's four rows
pub has_bank : (desc : Description) (bank : Bank) (active : List ℕ) (rows : List Row) → IsValue desc →
    ((row : Row) → Contains (bank_said desc bank active) row → Contains rows row) → AcceptsText (acceptance rows) (rows_of desc bank active)
has_bank desc bank active rows is within = rows_accepted rows (rows_of desc bank active) (λ spelled e.
    let value = bank_value desc bank is in
    let parsed = four_rows_parse desc bank active is.root value.manifest_key.key value.capsule_key.key in
    let same : bank_said desc bank active ≡ spelled = cc in
    subst (λ (all : List Row). All (Contains rows) all) same
    (λ k d below. within (get_or (bank_said desc bank active) k d) (Contains-get_or (bank_said desc bank active) k d below)))

-- the engine of both
pub both_accepted : (desc : Description) (a b : List ℕ) (rows : List Row) → IsValue desc → judge_text (rows_of desc Bmc a ++ rows_of desc Pch b) ≡ Ok rows →
    AcceptsText (acceptance rows) (rows_of desc Bmc a) × AcceptsText (acceptance rows) (rows_of desc Pch b)
both_accepted desc a b rows is are =
    let first = bank_said desc Bmc a in
    let second = bank_said desc Pch b in
    let parsed = both_rows_parse desc a b is in
    let same : first ++ second ≡ rows = cc in (
      has_bank desc Bmc a rows is (λ row has. subst (λ (all : List Row). Contains all row) same (Contains-append_left first second row has)),
      has_bank desc Pch b rows is (λ row has. subst (λ (all : List Row). Contains all row) same (Contains-append_right first second row has)),
    )

-- what is made of both banks is a platform for the engine of what is made
pub platform_made : (desc : Description) (bmc_image bmc_staged pch_image pch_staged : List ℕ) (rows : List Row) → IsSound desc →
    judge_bank desc Bmc bmc_image bmc_staged ≡ Ok tt → judge_bank desc Pch pch_image pch_staged ≡ Ok tt →
    judge_text (rows_of desc Bmc (active_image desc Bmc bmc_image) ++ rows_of desc Pch (active_image desc Pch pch_image)) ≡ Ok rows →
    IsPlatform desc (flash_of desc Bmc bmc_image bmc_staged) (flash_of desc Pch pch_image pch_staged) (acceptance rows)
unfolding bank_of
platform_made desc bmc_image bmc_staged pch_image pch_staged rows sound bmc_judged pch_judged are =
    let accepted = both_accepted desc (active_image desc Bmc bmc_image) (active_image desc Pch pch_image) rows sound.values are in
    let bmc = worthy_made desc Bmc bmc_image bmc_staged sound bmc_judged in
    let pch = worthy_made desc Pch pch_image pch_staged sound pch_judged in
    record {
      bmc_trusted = bmc.trusted (acceptance rows) accepted.0;
      bmc_good = bmc.good (acceptance rows) accepted.0;
      pch_trusted = pch.trusted (acceptance rows) accepted.1;
      pch_good = pch.good (acceptance rows) accepted.1;
    }
