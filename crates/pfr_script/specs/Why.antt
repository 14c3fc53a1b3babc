-- The word for each thing that can be wrong with a line.
use Rattle.std.specs.Prelude.{ℕ, List, codes}
use Rattle.pfr_script.specs.declared.script_why.ScriptWhy.{ScriptWhy}
use Rattle.pfr_script.specs.declared.script_why.ScriptWhy.TheVariants.{TooMany, Word, Number, Hex, Length, TooManyArms}

abbrev pub word_of : ScriptWhy → List ℕ
word_of TooMany = codes "too-many"
word_of Word = codes "word"
word_of Number = codes "number"
word_of Hex = codes "hex"
word_of Length = codes "length"
word_of TooManyArms = codes "too-many-arms"
