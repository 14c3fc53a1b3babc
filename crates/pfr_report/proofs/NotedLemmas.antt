-- Notes that have texts.
use Rattle.std.proofs.Common.{ℕ, zero, suc, ◌<◌, List, [], ◌∷◌, ◌++◌, length, get_or, arith}
use Rattle.pfr_report.specs.Texts.{HasText, AllText}
use Rattle.pfr_report.specs.declared.note.Note.{Note}

pub AllText-append : (xs ys : List Note) → AllText xs → AllText ys → AllText (xs ++ ys)
AllText-append [] ys h k = k
AllText-append (x ∷ xs) ys h k = (h.0, AllText-append xs ys h.1 k)

pub AllText-at : (xs : List Note) (i : ℕ) (d : Note) → i < length xs → AllText xs → HasText (get_or xs i d).what
AllText-at [] i d h t = absurd (omega arith)
AllText-at (x ∷ xs) zero d h t = t.0
AllText-at (x ∷ xs) (suc i) d h t = AllText-at xs i d (omega arith) t.1
