-- Blocks of form 2, whose keys and signatures state their lengths. The scheme is the curve's number, a key is X then Y, a signature R then S.
use Rattle.std.specs.Prelude.{ℕ, List, ◌++◌}
use Rattle.pfr_engine.specs.declared.engine.Ask.{Ask}
use Rattle.pfr_engine.specs.declared.engine.Curve.{Curve}
use Rattle.pfr_engine.specs.declared.engine.Curve.TheVariants.{C384}
use Rattle.pfr_chain.specs.Keys.{any}
use Rattle.pfr_made.specs.Fields.{number_bytes, zeros, padded}
use Rattle.pfr_made.specs.Marks.{number_of_curve, marks_of}
use Rattle.pfr_made.specs.Rows.{long_row_of}
use Rattle.pfr_description.specs.Described.{Description}
use Rattle.pfr_description.specs.declared.keys.KeyDescription.{KeyDescription}
use Rattle.pfr_description.specs.declared.keys.PublicKey.{PublicKey}

-- a key as entries spell it: permissions, id, scheme, its length, X and Y
unfoldable pub key_bytes : Curve → ℕ → ℕ → PublicKey → List ℕ
key_bytes curve permissions id key = number_bytes permissions ++ number_bytes id ++ number_bytes (number_of_curve curve)
    ++ number_bytes 96 ++ key.x ++ key.y

-- a signature: its length, R and S
unfoldable pub signature_bytes : Ask → List ℕ
signature_bytes marks = number_bytes 96 ++ marks.r ++ marks.s

-- what the root signs of a key
abbrev pub signed_key : Description → KeyDescription → List ℕ
signed_key desc key = key_bytes desc.curve key.permissions key.id key.key

-- a key's marks on a message: on either curve they are on its SHA-384
abbrev pub long_marks_of : PublicKey → List ℕ → Ask
long_marks_of key message = marks_of C384 key message

-- the root's marks on a key
abbrev pub marks_on_key : Description → KeyDescription → Ask
marks_on_key desc key = long_marks_of desc.root (signed_key desc key)

-- what Block 1 begins with, and the root entry
unfoldable pub head_bytes : Description → List ℕ
head_bytes desc = number_bytes 0xF27F28D8 ++ zeros 12 ++ number_bytes 0xA757A047 ++ key_bytes desc.curve any any desc.root

unfoldable pub key_entry : Description → KeyDescription → List ℕ
key_entry desc key = number_bytes 0x14711C30 ++ signed_key desc key ++ signature_bytes (marks_on_key desc key)

unfoldable pub block0_entry : Ask → List ℕ
block0_entry marks = number_bytes 0x15364368 ++ signature_bytes marks

-- the block that begins with this Block 0
unfoldable pub block_of : Description → KeyDescription → List ℕ → List ℕ
block_of desc key block0 =
    padded 1024 (block0 ++ head_bytes desc ++ key_entry desc key ++ block0_entry (long_marks_of key.key block0))

unfoldable pub rows_of : Description → KeyDescription → List ℕ → List ℕ
rows_of desc key block0 = long_row_of (number_of_curve desc.curve) (marks_on_key desc key)
    ++ long_row_of (number_of_curve desc.curve) (long_marks_of key.key block0)

-- a block without a key entry, which the root signs
unfoldable pub root_block_of : Description → List ℕ → List ℕ
root_block_of desc block0 = padded 1024 (block0 ++ head_bytes desc ++ block0_entry (long_marks_of desc.root block0))

abbrev pub root_row_of : Description → List ℕ → List ℕ
root_row_of desc block0 = long_row_of (number_of_curve desc.curve) (long_marks_of desc.root block0)
