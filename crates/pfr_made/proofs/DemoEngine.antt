-- The engine of a demo reads its three makings' rows, and accepts them, so that both banks are trusted and their recovery areas good.
use Rattle.std.proofs.Common.{◌≡◌, ◌∙◌, ap, sym, refl, ℕ, List, [], ◌++◌, Ok, subst, append_assoc, arith}
use Rattle.std.specs.Prelude.{Contains}
use Rattle.std.proofs.lemmas.List.{append-nil}
use Rattle.std.proofs.lemmas.List.Elements.{Contains-append_left, Contains-append_right}
use Rattle.pfr_engine.specs.Accepting.{acceptance}
use Rattle.pfr_engine.specs.Rows.{judge_lines, judge_text, lines_in}
use Rattle.pfr_engine.specs.declared.row.Row.{Row}
use Rattle.pfr_flash.specs.declared.names.Bank.TheVariants.{Bmc, Pch}
use Rattle.pfr_description.specs.Banks.{bank_of}
use Rattle.pfr_description.specs.Described.{Description}
use Rattle.pfr_description.specs.Sound.{IsSound}
use Rattle.pfr_description.specs.Typed.{IsValue}
use Rattle.pfr_made.specs.Demo.{IsDemoSize, bmc_active, bmc_image, demo_description, demo_of, newer_active, pch_active, pch_image}
use Rattle.pfr_made.specs.DemoWorth.{IsDemoWorthy}
use Rattle.pfr_made.specs.Made.{rows_of}
use Rattle.pfr_made.proofs.DemoJudged.{demo_judged}
use Rattle.pfr_made.proofs.DemoSound.{demo_sound}
use Rattle.pfr_made.proofs.EngineBoth.{has_bank}
use Rattle.pfr_made.proofs.RowsMadeTexts.{bank_said, four_rows_front}
use Rattle.pfr_made.proofs.WorthMade.{worthy_made}

-- the BMC's rows of one description, the PCH's, and the BMC's of another
three_parse : (old new : Description) (a b c : List ℕ) → IsValue old → IsValue new →
    judge_text (rows_of old Bmc a ++ rows_of old Pch b ++ rows_of new Bmc c) ≡ Ok (bank_said old Bmc a ++ bank_said old Pch b ++ bank_said new Bmc c)
unfolding judge_text bank_of
three_parse old new a b c is other =
    let last : judge_lines 9 (lines_in (rows_of new Bmc c)) ≡ Ok (bank_said new Bmc c) =
    ap (λ (text : List ℕ). judge_lines 9 (lines_in text)) (sym (append-nil (rows_of new Bmc c)))
    ∙ four_rows_front 9 new Bmc c [] [] (omega arith) other.root other.bmc.manifest_key.key other.bmc.capsule_key.key refl in
    let second : judge_lines 5 (lines_in (rows_of old Pch b ++ rows_of new Bmc c)) ≡ Ok (bank_said old Pch b ++ bank_said new Bmc c) =
    four_rows_front 5 old Pch b (rows_of new Bmc c) (bank_said new Bmc c) (omega arith) is.root is.pch.manifest_key.key is.pch.capsule_key.key last in
    ap (λ (text : List ℕ). judge_lines 1 (lines_in text)) (append_assoc (rows_of old Bmc a) (rows_of old Pch b) (rows_of new Bmc c))
    ∙ four_rows_front 1 old Bmc a (rows_of old Pch b ++ rows_of new Bmc c) (bank_said old Pch b ++ bank_said new Bmc c) (omega arith) is.root is.bmc.manifest_key.key is.bmc.capsule_key.key second
    ∙ ap (λ (rows : List Row). Ok rows) (sym (append_assoc (bank_said old Bmc a) (bank_said old Pch b) (bank_said new Bmc c)))

-- what the engine's text of a demo says
abbrev pub demo_said : ℕ → ℕ → List Row
demo_said number sectors = bank_said (demo_description 1 sectors) Bmc (bmc_active number sectors) ++ bank_said (demo_description 1 sectors) Pch (pch_active number sectors)
    ++ bank_said (demo_description 2 sectors) Bmc (newer_active number sectors)

pub demo_engine : (number sectors : ℕ) → IsDemoSize sectors → judge_text (demo_of number sectors).engine ≡ Ok (demo_said number sectors)
demo_engine number sectors size =
    three_parse (demo_description 1 sectors) (demo_description 2 sectors) (bmc_active number sectors) (pch_active number sectors) (newer_active number sectors)
    (demo_sound 1 sectors (omega arith) size).values (demo_sound 2 sectors (omega arith) size).values

-- both banks are trusted and their recovery areas good at the start
pub demo_worthy : (number sectors : ℕ) → IsDemoSize sectors → IsDemoWorthy number sectors
unfolding bank_of
demo_worthy number sectors size rows are =
    let desc : Description = demo_description 1 sectors in
    let sound : IsSound desc = demo_sound 1 sectors (omega arith) size in
    let judged = demo_judged number sectors size in
    let first = bank_said desc Bmc (bmc_active number sectors) in
    let second = bank_said desc Pch (pch_active number sectors) in
    let third = bank_said (demo_description 2 sectors) Bmc (newer_active number sectors) in
    let parsed = demo_engine number sectors size in
    let same : first ++ second ++ third ≡ rows = cc in
    let bmc = worthy_made desc Bmc (bmc_image number sectors) _ sound judged.1 in
    let pch = worthy_made desc Pch (pch_image number sectors) [] sound judged.2 in
    let bmc_accepted = has_bank desc Bmc (bmc_active number sectors) rows sound.values
    (λ row has. subst (λ (all : List Row). Contains all row) same (Contains-append_left (first ++ second) third row (Contains-append_left first second row has))) in
    let pch_accepted = has_bank desc Pch (pch_active number sectors) rows sound.values
    (λ row has. subst (λ (all : List Row). Contains all row) same (Contains-append_left (first ++ second) third row (Contains-append_right first second row has))) in
    record {
      bmc_trusted = bmc.trusted (acceptance rows) bmc_accepted;
      bmc_good = bmc.good (acceptance rows) bmc_accepted;
      pch_trusted = pch.trusted (acceptance rows) pch_accepted;
      pch_good = pch.good (acceptance rows) pch_accepted;
    }
