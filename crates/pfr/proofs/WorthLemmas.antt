-- What `make` stores is trusted.
use Rattle.std.proofs.Common.{◌≡◌, ◌∙◌, ap, refl, sym, subst, ℕ, List, [], ◌∷◌, ◌++◌, Bool, true, false, Option, Some, None, Result, Ok, Err}
use Rattle.std.specs.Prelude.{nat_lt, length, if◌then◌else◌}
use Rattle.pfr_flash.specs.declared.names.Bank.{Bank}
use Rattle.pfr_flash.specs.declared.names.Bank.TheVariants.{Bmc, Pch}
use Rattle.pfr_shelf.specs.Files.{Files}
use Rattle.pfr_description.specs.Banks.{bank_of}
use Rattle.pfr_description.specs.Described.{Description}
use Rattle.pfr_description.specs.Whole.{judge_description}
use Rattle.pfr_description.specs.declared.fail.DescWhy.{DescWhy}
use Rattle.pfr_description.proofs.SoundDescription.{described_is}
use Rattle.pfr_made.specs.Made.{judge_bank}
use Rattle.pfr_made.specs.Trust.{IsWorthy}
use Rattle.pfr_made.specs.Made.{active_image}
use Rattle.pfr_made.proofs.EngineBoth.{both_rows_parse, platform_made}
use Rattle.pfr_made.proofs.RowsMadeTexts.{bank_said}
use Rattle.pfr_made.proofs.WorthMade.{worthy_made}
use Rattle.pfr.specs.Judging.{FileRow, Finding, Keeps, Breaks, finding, limit_of, told_by, verdict}
use Rattle.pfr.specs.Making.{bank_rows, described_in, description_fault, description_fault_in, description_row, flash_in, image_in, made_bank_row, make_names, make_rows, make_stores, rows_described, rows_in, staged_in}
use Rattle.pfr.specs.Request.{MakeRequest}
use Rattle.pfr.specs.Worth.{MakesWorthy}
use Rattle.pfr.specs.declared.status.Role.TheVariants as role
use Rattle.pfr.specs.declared.status.Status.{Status}
use Rattle.pfr.specs.declared.status.Status.TheVariants.{Done, TooLong}
use Rattle.pfr.specs.declared.finished.Bench.{Bench}
use Rattle.pfr.specs.Runs.{Outside}
use Rattle.pfr.specs.Makes.{MakesFor, MakingAnswers}
use Rattle.pfr.proofs.LoadLemmas.{after_kept}
use Rattle.pfr.proofs.PrepareLemmas.{described_as}

-- files behind others
last_kept : (xs ys : List FileRow) → verdict (xs ++ ys) ≡ Keeps → verdict ys ≡ Keeps
last_kept [] ys e = e
last_kept (x ∷ xs) ys e = last_kept xs ys (after_kept x.finding (verdict (xs ++ ys)) e).1

-- what keeps its rules has no fault
judged_ok : {T : Type 0} (judged : Result T DescWhy) → told_by role.Description (description_fault_in judged) ≡ Keeps → (x : T) × (judged ≡ Ok x)
judged_ok (Ok x) e = (x, refl)
judged_ok (Err why) e = cc

short_kept : (long : Bool) (kept : Finding) → (if long then Breaks (TooLong role.Description) else kept) ≡ Keeps → kept ≡ Keeps
short_kept true kept e = cc
short_kept false kept e = e

-- the file of a description that keeps its rules
pub record IsDescribed (held : Option (List ℕ)) : Type 0 where
  pub text : List ℕ
  pub desc : Description
  pub there : held ≡ Some text
  pub judged : judge_description text ≡ Ok desc

described_kept : (held : Option (List ℕ)) → finding role.Description description_fault held ≡ Keeps → IsDescribed held
described_kept None e = cc
described_kept (Some text) e =
    let ok = judged_ok (judge_description text) (short_kept (nat_lt (limit_of role.Description) (length text)) (told_by role.Description (description_fault text)) e) in
    record { text = text; desc = ok.0; there = refl; judged = ok.1 }

-- a bank of which nothing is found when it is made
bank_worthy : (name text : List ℕ) (desc : Description) (bank : Bank) (files : Files) → judge_description text ≡ Ok desc → (made_bank_row name desc bank files).finding ≡ Keeps
    → IsWorthy desc bank (flash_in files desc bank) (rows_in files desc bank)
bank_worthy name text desc bank files read kept =
    worthy_made desc bank (image_in files (bank_of desc bank)) (staged_in files (bank_of desc bank)) (described_is text desc read)
    (judged_ok (judge_bank desc bank (image_in files (bank_of desc bank)) (staged_in files (bank_of desc bank))) kept).1

both_worthy : (files : Files) (request : MakeRequest) (text : List ℕ) (desc : Description) → files request.description ≡ Some text → judge_description text ≡ Ok desc → verdict (rows_described request.description (Some desc) files) ≡ Keeps
    → MakesWorthy files request
both_worthy files request text desc there read kept =
    let name = request.description in
    let made = last_kept (bank_rows Bmc (bank_of desc Bmc) files ++ bank_rows Pch (bank_of desc Pch) files) (made_bank_row name desc Bmc files ∷ made_bank_row name desc Pch files ∷ []) kept in
    let bmc = after_kept (made_bank_row name desc Bmc files).finding _ made in
    let pch = after_kept (made_bank_row name desc Pch files).finding _ bmc.1 in
    let sound = described_is text desc read in
    let bmc_image = image_in files (bank_of desc Bmc) in
    let pch_image = image_in files (bank_of desc Pch) in
    let bmc_staged = staged_in files (bank_of desc Bmc) in
    let pch_staged = staged_in files (bank_of desc Pch) in
    let parsed = both_rows_parse desc (active_image desc Bmc bmc_image) (active_image desc Pch pch_image) sound.values in record {
      desc = desc;
      described = described_as (files request.description) desc text there read;
      bmc = bank_worthy name text desc Bmc files read bmc.0;
      pch = bank_worthy name text desc Pch files read pch.0;
      rows = bank_said desc Bmc (active_image desc Bmc bmc_image) ++ bank_said desc Pch (active_image desc Pch pch_image);
      engine = parsed;
      platform = platform_made desc bmc_image bmc_staged pch_image pch_staged _ sound (judged_ok (judge_bank desc Bmc bmc_image bmc_staged) bmc.0).1
          (judged_ok (judge_bank desc Pch pch_image pch_staged) pch.0).1 parsed;
    }

pub makes_worthy : (files : Files) (request : MakeRequest) → verdict (make_rows request files) ≡ Keeps → MakesWorthy files request
unfolding make_rows
makes_worthy files request kept =
    let rows = after_kept (description_row request.description files).finding _ kept in
    let found = described_kept (files request.description) rows.0 in
    let says : described_in (files request.description) ≡ Some found.desc = described_as (files request.description) found.desc found.text found.there found.judged in
    both_worthy files request found.text found.desc found.there found.judged (ap (λ (o : Option Description). verdict (rows_described request.description o files)) (sym says) ∙ rows.1)

pub worth_of : (told : Bool) (before after : Outside) (request : MakeRequest) (option : Option Bench) (status : Status) → MakingAnswers told before after (make_rows request) (make_names request) (make_stores request) option status → told ≡ true → status ≡ Done
    → MakesWorthy before.files request
worth_of told before after request option status a t d =
    makes_worthy before.files request (subst (λ (s : Status). MakesFor told before after (make_rows request) (make_names request) (make_stores request) s) d a.cause t).0
