-- The judgement of a block of either form: its tests in the order of the causes, the first that fails is the answer.
use Rattle.std.specs.Prelude.{ℕ, ◌+◌, nat_le, List, Option, Result, Ok}
use Rattle.sha2.specs.Sha256.{sha256}
use Rattle.sha2.specs.Sha512.{sha384}
use Rattle.pfr_flash.specs.Bytes.{bytes_at}
use Rattle.pfr_flash.specs.declared.names.ContentType.{ContentType}
use Rattle.pfr_engine.specs.Acceptance.{Acceptance}
use Rattle.pfr_chain.specs.Block.{head_at}
use Rattle.pfr_flash.specs.Judging.{◌>>=◌, ◌>>◌, require}
use Rattle.pfr_chain.specs.BlockJudge.{judge_block0, judge_content}
use Rattle.pfr_chain.specs.Form1Judge.{judge_form1}
use Rattle.pfr_chain.specs.Form2Judge.{judge_form2}
use Rattle.pfr_chain.specs.declared.form.Form.{Form}
use Rattle.pfr_chain.specs.declared.form.Form.TheVariants.{One, Two}
use Rattle.pfr_chain.specs.declared.fail.ChainFail.{ChainFail}
use Rattle.pfr_chain.specs.declared.fail.ChainFail.TheVariants.{ShortBlock}
use Rattle.pfr_chain.specs.declared.judging.Chain.{Chain}

unfoldable pub judge_block1 : Form → List ℕ → ContentType → List ℕ → List ℕ → Acceptance → Result (Option ℕ) ChainFail
judge_block1 One block type root row accepts = judge_form1 block type root row accepts
judge_block1 Two block type root row accepts = judge_form2 block type root row accepts

-- The chain at a place within a length, or the first cause against it.
unfoldable pub judge : List ℕ → ℕ → ℕ → ContentType → List ℕ → List ℕ → Acceptance → Result Chain ChainFail
judge image place len type root row accepts = do
  let head : List ℕ = head_at image place
  require ShortBlock (nat_le 1024 len)
  block0 ← judge_block0 head type len
  let content : List ℕ = bytes_at image (place + block0.block_length) block0.length
  judge_content head (sha256 content) (sha384 content)
  key ← judge_block1 block0.form (bytes_at image place block0.block_length) type root row accepts
  Ok (record { content_at = place + block0.block_length; length = block0.length; key = key })
