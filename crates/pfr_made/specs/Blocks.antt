-- Signature blocks, and the rows of their signatures.
use Rattle.std.specs.Prelude.{ℕ, List, ◌++◌, length}
use Rattle.sha2.specs.Sha256.{sha256}
use Rattle.sha2.specs.Sha512.{sha384}
use Rattle.pfr_flash.specs.declared.names.ContentType.{ContentType}
use Rattle.pfr_chain.specs.Block.{magic_of_block0}
use Rattle.pfr_chain.specs.declared.form.Form as chain_forms
use Rattle.pfr_chain.specs.declared.form.Form.TheVariants as of_chain
use Rattle.pfr_chain.specs.Types.{number_of}
use Rattle.pfr_made.specs.Fields.{number_bytes, padded}
use Rattle.pfr_made.specs.Form1 as form1
use Rattle.pfr_made.specs.Form2 as form2
use Rattle.pfr_description.specs.Described.{Description}
use Rattle.pfr_description.specs.declared.form.Form.{Form}
use Rattle.pfr_description.specs.declared.form.Form.TheVariants.{One, Two}
use Rattle.pfr_description.specs.declared.keys.KeyDescription.{KeyDescription}

-- a description's form as chains name it
abbrev pub chain_form : Form → chain_forms.Form
chain_form One = of_chain.One
chain_form Two = of_chain.Two

-- what stands behind the type: only form 2 states the block's length
abbrev pub stated_length : Form → ℕ
stated_length One = 0
stated_length Two = 1024

-- Block 0 of a content: magic, the content's length and type, the block's length, both digests
unfoldable pub block0_bytes : Form → ContentType → List ℕ → List ℕ
block0_bytes form type content = padded 128 (number_bytes (magic_of_block0 (chain_form form)) ++ number_bytes (length content)
    ++ number_bytes (number_of type) ++ number_bytes (stated_length form) ++ sha256 content ++ sha384 content)

-- the block that begins with this Block 0, which the key signs and the root signs the key
abbrev pub block_in : Form → Description → KeyDescription → List ℕ → List ℕ
block_in One desc key block0 = form1.block_of desc key block0
block_in Two desc key block0 = form2.block_of desc key block0

abbrev pub rows_in : Form → Description → KeyDescription → List ℕ → List ℕ
rows_in One desc key block0 = form1.rows_of desc key block0
rows_in Two desc key block0 = form2.rows_of desc key block0

-- a content that the key signs, behind its block
unfoldable pub signed_bytes : Description → KeyDescription → ContentType → List ℕ → List ℕ
signed_bytes desc key type content = block_in desc.form desc key (block0_bytes desc.form type content) ++ content

-- the rows of its signatures: the root's of the key, then the key's of Block 0
unfoldable pub signed_rows : Description → KeyDescription → ContentType → List ℕ → List ℕ
signed_rows desc key type content = rows_in desc.form desc key (block0_bytes desc.form type content)

-- the block that begins with this Block 0, which the root signs
abbrev pub root_block_in : Form → Description → List ℕ → List ℕ
root_block_in One desc block0 = form1.root_block_of desc block0
root_block_in Two desc block0 = form2.root_block_of desc block0

abbrev pub root_row_in : Form → Description → List ℕ → List ℕ
root_row_in One desc block0 = form1.root_row_of desc block0
root_row_in Two desc block0 = form2.root_row_of desc block0

-- a content that the root signs, behind its block
unfoldable pub root_signed_bytes : Description → ContentType → List ℕ → List ℕ
root_signed_bytes desc type content = root_block_in desc.form desc (block0_bytes desc.form type content) ++ content

unfoldable pub root_signed_row : Description → ContentType → List ℕ → List ℕ
root_signed_row desc type content = root_row_in desc.form desc (block0_bytes desc.form type content)
