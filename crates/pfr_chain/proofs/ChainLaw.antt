-- A judgement ends well exactly where there is a chain, and says which.
use Rattle.std.proofs.Common.{◌≡◌, ℕ, ◌≤◌, ◌+◌, nat_le, Option, Ok, List, refl, sym, ◌∙◌, subst, arith}
use Rattle.sha2.specs.Sha256.{sha256}
use Rattle.sha2.specs.Sha512.{sha384}
use Rattle.pfr_flash.specs.Bytes.{bytes_at}
use Rattle.pfr_flash.specs.declared.names.ContentType.{ContentType}
use Rattle.pfr_engine.specs.Acceptance.{Acceptance}
use Rattle.pfr_flash.specs.Numbers.{number_at}
use Rattle.pfr_chain.specs.Block.{magic_of_block1, head_at}
use Rattle.pfr_chain.specs.Chain.{IsBlock1, IsChain}
use Rattle.pfr_chain.specs.BlockJudge.{judge_block0, judge_content}
use Rattle.pfr_chain.specs.Judge.{judge_block1, judge}
use Rattle.pfr_chain.specs.declared.form.Form.{Form}
use Rattle.pfr_chain.specs.declared.form.Form.TheVariants.{One, Two}
use Rattle.pfr_chain.specs.declared.block0.Block0.{Block0}
use Rattle.pfr_chain.specs.declared.fail.ChainFail.TheVariants.{ShortBlock}
use Rattle.pfr_chain.specs.declared.judging.Chain.{Chain}
use Rattle.pfr_flash.proofs.JudgingLemmas.{passed, passed_part, passed_unit, goes_on, Decides-le}
use Rattle.pfr_chain.proofs.BlockLaw.{IsBlock0, block0_holds, block0_ends, content_holds, content_ends}
use Rattle.pfr_chain.proofs.Form1Law.{form1_holds, form1_ends}
use Rattle.pfr_chain.proofs.Form2Law.{form2_holds, form2_ends}

block1_holds : (form : Form) (block : List ℕ) (type : ContentType) (root row : List ℕ) (accepts : Acceptance) (key : Option ℕ) → judge_block1 form block type root row accepts ≡ Ok key → (number_at block 128 ≡ magic_of_block1 form) × IsBlock1 form block type root row accepts key
unfolding judge_block1
block1_holds One block type root row accepts key h = form1_holds block type root row accepts key h
block1_holds Two block type root row accepts key h = form2_holds block type root row accepts key h

block1_ends : (form : Form) (block : List ℕ) (type : ContentType) (root row : List ℕ) (accepts : Acceptance) (key : Option ℕ) → number_at block 128 ≡ magic_of_block1 form → IsBlock1 form block type root row accepts key → judge_block1 form block type root row accepts ≡ Ok key
unfolding judge_block1
block1_ends One block type root row accepts key magic h = form1_ends block type root row accepts key magic h
block1_ends Two block type root row accepts key magic h = form2_ends block type root row accepts key magic h

-- the parts of a chain, each with what its judgement told
assembled : (image : List ℕ) (place len : ℕ) (type : ContentType) (root row : List ℕ) (accepts : Acceptance) (said : Block0) (key : Option ℕ) →
    IsBlock0 (head_at image place) type len said →
    judge_content (head_at image place) (sha256 (bytes_at image (place + said.block_length) said.length)) (sha384 (bytes_at image (place + said.block_length) said.length)) ≡ Ok tt →
    judge_block1 said.form (bytes_at image place said.block_length) type root row accepts ≡ Ok key →
    IsChain image place len type root row accepts (record { content_at = place + said.block_length; length = said.length; key = key })
assembled image place len type root row accepts said key b content signatures =
    let head : List ℕ = head_at image place in
    let blen : ℕ = said.block_length in
    let d = content_holds head (sha256 (bytes_at image (place + blen) said.length)) (sha384 (bytes_at image (place + blen) said.length)) content in
    let s = block1_holds said.form (bytes_at image place blen) type root row accepts key signatures in
    let P : ℕ → Type 0 = λ n. sha256 (bytes_at image (place + blen) n) ≡ bytes_at head 16 32 in
    let Q : ℕ → Type 0 = λ n. sha384 (bytes_at image (place + blen) n) ≡ bytes_at head 48 48 in
    record {
      blen = blen;
      block = record {
        form = said.form;
        block0_magic = b.magic;
        block1_magic = s.0;
        type_number = b.type_number;
        block_length = b.block_length;
        right_length = b.right_length;
        not_empty = omega (arith, b.length, b.not_empty);
        within = omega (arith, b.length, b.within);
        certificate = λ c. sym b.length ∙ b.certificate c;
        digest256 = subst P b.length d.0;
        digest384 = subst Q b.length d.1;
      };
      signed = s.1;
      content_at = refl;
      length = b.length;
    }

-- A judgement that ends well has found this chain.
pub judge_holds : (image : List ℕ) (place len : ℕ) (type : ContentType) (root row : List ℕ) (accepts : Acceptance) (chain : Chain) → judge image place len type root row accepts ≡ Ok chain →
    IsChain image place len type root row accepts chain
unfolding judge
judge_holds image place len type root row accepts chain h =
    let head : List ℕ = head_at image place in
    let a = passed ShortBlock (nat_le 1024 len) _ chain (Decides-le 1024 len) h in
    let b = passed_part (judge_block0 head type len) _ chain a.1 in
    let content : List ℕ = bytes_at image (place + b.0.block_length) b.0.length in
    let d = passed_unit (judge_content head (sha256 content) (sha384 content)) _ chain b.2 in
    let k = passed_part (judge_block1 b.0.form (bytes_at image place b.0.block_length) type root row accepts) _ chain d.1 in
    let made : Chain = record { content_at = place + b.0.block_length; length = b.0.length; key = k.0 } in
    let is : made ≡ chain = cc in
    let P : Chain → Type 0 = λ c. IsChain image place len type root row accepts c in
    subst P is (assembled image place len type root row accepts b.0 k.0 (block0_holds head type len b.0 b.1) d.0 k.1)

-- Where there is a chain, the judgement ends well with it.
pub judge_ends : (image : List ℕ) (place len : ℕ) (type : ContentType) (root row : List ℕ) (accepts : Acceptance) (chain : Chain) → IsChain image place len type root row accepts chain →
    judge image place len type root row accepts ≡ Ok chain
unfolding judge
judge_ends image place len type root row accepts chain h =
    let head : List ℕ = head_at image place in
    let b = h.block in
    let room : 1024 ≤ len = omega (arith, b.within, b.right_length.least) in
    rw (
      goes_on ShortBlock (nat_le 1024 len) _ (Decides-le 1024 len) room,
      block0_ends head type len b.form h.blen b.block0_magic b.type_number (sym b.block_length) b.right_length b.not_empty b.within b.certificate,
      content_ends head _ _ b.digest256 b.digest384,
      block1_ends b.form (bytes_at image place h.blen) type root row accepts chain.key b.block1_magic h.signed,
      ← h.content_at,
      ← h.length,
    ) refl

-- at most one chain is at a place, within a length
pub IsChain-same : (image : List ℕ) (place len : ℕ) (type : ContentType) (root row : List ℕ) (accepts : Acceptance) (a b : Chain) → IsChain image place len type root row accepts a → IsChain image place len type root row accepts b → a ≡ b
IsChain-same image place len type root row accepts a b p q =
    let x = judge_ends image place len type root row accepts a p in
    let y = judge_ends image place len type root row accepts b q in
    cc

-- a chain's block has 1,024 bytes at least, and its content is not empty and ends within the length
pub IsChain-inside : (image : List ℕ) (place len : ℕ) (type : ContentType) (root row : List ℕ) (accepts : Acceptance) (chain : Chain) → IsChain image place len type root row accepts chain
    → (place + 1024 ≤ chain.content_at) × (1 ≤ chain.length) × (chain.content_at + chain.length ≤ place + len)
IsChain-inside image place len type root row accepts chain h = (omega arith, omega arith, omega arith)
