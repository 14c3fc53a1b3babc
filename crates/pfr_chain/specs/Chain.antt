-- A chain: a signature block with its content, signed from the root on.
use Rattle.std.specs.Prelude.{◌≡◌, ℕ, ◌+◌, List, Option}
use Rattle.pfr_flash.specs.Bytes.{bytes_at}
use Rattle.pfr_flash.specs.declared.names.ContentType.{ContentType}
use Rattle.pfr_engine.specs.Acceptance.{Acceptance}
use Rattle.pfr_chain.specs.Block.{BlockAt, head_at, content_length}
use Rattle.pfr_chain.specs.Form1.{IsForm1}
use Rattle.pfr_chain.specs.Form2.{IsForm2}
use Rattle.pfr_chain.specs.declared.form.Form.{Form}
use Rattle.pfr_chain.specs.declared.form.Form.TheVariants.{One, Two}
use Rattle.pfr_chain.specs.declared.judging.Chain.{Chain}

-- Block 1 in the spelling of a form: signed by the key of this id that the root signed, or by the root
abbrev pub IsBlock1 : Form → List ℕ → ContentType → List ℕ → List ℕ → Acceptance → Option ℕ → Type 0
IsBlock1 One block type root row accepts key = IsForm1 block type root row accepts key
IsBlock1 Two block type root row accepts key = IsForm2 block type root row accepts key

-- A chain for content of a type at a place, within a length: from the root, over no key that the row cancels.
pub record IsChain (image : List ℕ) (place len : ℕ) (type : ContentType) (root row : List ℕ) (accepts : Acceptance) (chain : Chain) : Type 0 where
  pub blen : ℕ
  pub block : BlockAt image place len type blen
  pub signed : IsBlock1 block.form (bytes_at image place blen) type root row accepts chain.key
  pub content_at : chain.content_at ≡ place + blen
  pub length : chain.length ≡ content_length (head_at image place)
