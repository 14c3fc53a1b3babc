-- The tests of Block 0 and of the content, in the order of the causes.
use Rattle.std.specs.Prelude.{ℕ, ◌-◌, ◌%◌, ◌==◌, ◌&&◌, ◌||◌, Bool, not, nat_le, nat_lt, List, Option, Some, None, Result, Ok, if◌then◌else◌}
use Rattle.std.specs.Str.{bytes_eq}
use Rattle.pfr_flash.specs.Bytes.{bytes_at}
use Rattle.pfr_flash.specs.declared.names.ContentType.{ContentType}
use Rattle.pfr_flash.specs.Numbers.{number_at}
use Rattle.pfr_chain.specs.Types.{number_of, is_certificate}
use Rattle.pfr_chain.specs.Block.{block_length, content_length}
use Rattle.pfr_flash.specs.Judging.{◌>>=◌, ◌>>◌, require, known}
use Rattle.pfr_chain.specs.declared.form.Form.{Form}
use Rattle.pfr_chain.specs.declared.form.Form.TheVariants.{One, Two}
use Rattle.pfr_chain.specs.declared.block0.Block0.{Block0}
use Rattle.pfr_chain.specs.declared.fail.ChainFail.{ChainFail}
use Rattle.pfr_chain.specs.declared.fail.ChainFail.TheVariants.{Block0Magic, WrongType, BlockLength, Length, Digest256, Digest384}

-- the form of a magic
abbrev pub form_of : ℕ → Option Form
form_of magic = if magic == 0xB6EAFD19 then Some One else if magic == 0xB6EAFD1A then Some Two else None

abbrev pub is_block_length : ℕ → Bool
is_block_length length = nat_le 1024 length && nat_le length 8320 && length % 128 == 0

-- a content of this length fits the room behind the block
abbrev pub fits : ContentType → ℕ → ℕ → Bool
fits type length room = nat_lt 0 length && nat_le length room && (not (is_certificate type) || length == 128)

-- Block 0 up to the length of the content. No block of form 1 has a wrong length, since there is room for it.
unfoldable pub judge_block0 : List ℕ → ContentType → ℕ → Result Block0 ChainFail
judge_block0 head type len = do
  form ← known Block0Magic (form_of (number_at head 0))
  require WrongType (number_at head 8 == number_of type)
  require BlockLength (is_block_length (block_length form head) && nat_le (block_length form head) len)
  require Length (fits type (content_length head) (len - block_length form head))
  Ok (record { form = form; block_length = block_length form head; length = content_length head })

-- both digests, against those of the content
unfoldable pub judge_content : List ℕ → List ℕ → List ℕ → Result (Unit {0}) ChainFail
judge_content head digest256 digest384 = do
  require Digest256 (bytes_eq digest256 (bytes_at head 16 32))
  require Digest384 (bytes_eq digest384 (bytes_at head 48 48))
