-- The pieces of a cause make its text.
use Rattle.std.proofs.Common.{◌≡◌, ◌∙◌, ap, ℕ, List, ◌++◌, Option, codes, append_assoc}
use Rattle.pfr_capsule.specs.declared.fail.CapsuleFail.{CapsuleFail}
use Rattle.pfr_auth.specs.declared.fail.ActiveFail.{ActiveFail}
use Rattle.pfr_report.specs.Texts.{lock_word}
use Rattle.pfr_report.specs.declared.note.LockWhy.TheVariants.{NoGoodImage}
use Rattle.pfr_report.specs.Words.{colon, digits, numbered, active_text, active_kind, active_word, active_number, capsule_text, capsule_kind, capsule_word, capsule_number}

cause_pieces : (kind word rest : List ℕ) (number : Option ℕ)
    → (kind ++ numbered word number) ++ rest ≡ kind ++ (word ++ (colon number ++ (digits number ++ rest)))
cause_pieces kind word rest number =
    append_assoc kind (numbered word number) rest
    ∙ ap (λ (xs : List ℕ). kind ++ xs) (append_assoc word (colon number ++ digits number) rest)
    ∙ ap (λ (xs : List ℕ). kind ++ (word ++ xs)) (append_assoc (colon number) (digits number) rest)

pub active_pieces : (why : ActiveFail) (rest : List ℕ)
    → active_text why ++ rest ≡ active_kind why ++ (active_word why ++ (colon (active_number why) ++ (digits (active_number why) ++ rest)))
active_pieces why rest = cause_pieces (active_kind why) (active_word why) rest (active_number why)

pub capsule_pieces : (why : CapsuleFail) (rest : List ℕ)
    → capsule_text why ++ rest ≡ capsule_kind why ++ (capsule_word why ++ (colon (capsule_number why) ++ (digits (capsule_number why) ++ rest)))
capsule_pieces why rest = cause_pieces (capsule_kind why) (capsule_word why) rest (capsule_number why)

pub no_good_pieces : (bank : List ℕ) (active : ActiveFail) (recovery : CapsuleFail) (end : List ℕ)
    → (bank ++ (codes " locked " ++ lock_word (NoGoodImage active recovery))) ++ end
    ≡ bank ++ (codes " locked no-good-image " ++ (active_kind active ++ (active_word active ++ (colon (active_number active) ++ (digits (active_number active)
    ++ (codes " " ++ (capsule_kind recovery ++ (capsule_word recovery ++ (colon (capsule_number recovery) ++ (digits (capsule_number recovery) ++ end))))))))))
no_good_pieces bank active recovery end =
    append_assoc bank (codes " locked " ++ lock_word (NoGoodImage active recovery)) end
    ∙ ap (λ (xs : List ℕ). bank ++ (codes " locked no-good-image " ++ xs)) (append_assoc (active_text active) (codes " " ++ capsule_text recovery) end
    ∙ ap (λ (xs : List ℕ). active_text active ++ (codes " " ++ xs)) (capsule_pieces recovery end)
    ∙ active_pieces active _)
