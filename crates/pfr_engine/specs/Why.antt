-- The word for each thing that can be wrong with a line.
use Rattle.std.specs.Prelude.{ℕ, List, codes}
use Rattle.pfr_engine.specs.declared.engine_why.EngineWhy.{EngineWhy}
use Rattle.pfr_engine.specs.declared.engine_why.EngineWhy.TheVariants.{Newline, TooMany, Words, Hex, Length, Curve, Digest}

abbrev pub word_of : EngineWhy → List ℕ
word_of Newline = codes "newline"
word_of TooMany = codes "too-many"
word_of Words = codes "words"
word_of Hex = codes "hex"
word_of Length = codes "length"
word_of Curve = codes "curve"
word_of Digest = codes "digest"
