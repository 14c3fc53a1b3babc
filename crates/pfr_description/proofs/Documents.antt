-- When a text is a document, and what the whole text is judged by.
use Rattle.std.proofs.Common.{◌≡◌, ℕ, Bool, true, false, List, Option, Some, None, Result, Ok, Err, if◌then◌else◌, refl, ap}
use Rattle.std.specs.Str.{IsUtf8, is_utf8}
use Rattle.std.proofs.lemmas.Str.{IsUtf8-from_is_utf8, is_utf8-from_IsUtf8}
use Rattle.toml.specs.Data.{Members}
use Rattle.toml.specs.Parse.{parse_document}
use Rattle.pfr_flash.specs.Judging.{known}
use Rattle.pfr_description.specs.Whole.{Reads, document_in, judge_top, judge_description}
use Rattle.pfr_description.specs.Described.{Description}
use Rattle.pfr_description.specs.declared.fail.DescFail.{DescFail}
use Rattle.pfr_description.specs.declared.fail.DescWhy.TheVariants.{Toml}

pub document_read : (text : List ℕ) (top : Members) → IsUtf8 text → parse_document text ≡ Some top → document_in text ≡ Ok top
unfolding document_in
document_read text top utf8 found = rw (is_utf8-from_IsUtf8 text utf8, found)

refused_by : (b : Bool) (parsed : Option Members) → (b ≡ true → parsed ≡ None) → (if b then known Toml parsed else Err Toml) ≡ Err Toml
refused_by true parsed refused = ap (known Toml) (refused refl)
refused_by false parsed refused = refl

pub document_refused : (text : List ℕ) → (IsUtf8 text → parse_document text ≡ None) → document_in text ≡ Err Toml
unfolding document_in
document_refused text refused = refused_by (is_utf8 text) (parse_document text) (λ (h : is_utf8 text ≡ true). refused (IsUtf8-from_is_utf8 text h))

-- what is read of the top table is what is read of the text
pub top_read : (result : Result Description DescFail) (text : List ℕ) (top : Members)
    → document_in text ≡ Ok top → Reads result (judge_top top) → Reads result (judge_description text)
unfolding judge_description
top_read result text top found h = rw found h
