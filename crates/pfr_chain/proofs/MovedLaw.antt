-- A chain depends on its own bytes alone: where another image has the same, it has the same chain.
use Rattle.std.proofs.Common.{◌≡◌, ℕ, ◌+◌, ◌-◌, ◌≤◌, List, sym, ◌∙◌, ap, subst, arith}
use Rattle.sha2.specs.Sha256.{sha256}
use Rattle.sha2.specs.Sha512.{sha384}
use Rattle.pfr_flash.specs.Bytes.{bytes_at}
use Rattle.pfr_flash.specs.declared.names.ContentType.{ContentType}
use Rattle.pfr_engine.specs.Acceptance.{Acceptance}
use Rattle.pfr_flash.specs.Numbers.{number_at}
use Rattle.pfr_chain.specs.Block.{block_length, head_at, content_length, BlockAt}
use Rattle.pfr_chain.specs.Chain.{IsBlock1, IsChain}
use Rattle.pfr_chain.specs.declared.judging.Chain.{Chain}
use Rattle.pfr_flash.proofs.PartsLemmas.{same_part, same_front}

-- the chain with its content counted from another place
abbrev pub moved : ℕ → ℕ → Chain → Chain
moved from to chain = record chain { content_at = to + (chain.content_at - from) }

-- the length of a chain's block and content
abbrev pub span_of : ℕ → Chain → ℕ
span_of place chain = chain.content_at + chain.length - place

pub BlockAt-moved : (a b : List ℕ) (p q len len' : ℕ) (type : ContentType) (blen : ℕ) (h : BlockAt a p len type blen)
    → head_at a p ≡ head_at b q → bytes_at a p blen ≡ bytes_at b q blen
    → bytes_at a (p + blen) (content_length (head_at a p)) ≡ bytes_at b (q + blen) (content_length (head_at a p))
    → blen + content_length (head_at a p) ≤ len' → BlockAt b q len' type blen
BlockAt-moved a b p q len len' type blen h head block content room =
    let length : content_length (head_at a p) ≡ content_length (head_at b q) = ap content_length head in
    let content' : bytes_at a (p + blen) (content_length (head_at a p)) ≡ bytes_at b (q + blen) (content_length (head_at b q)) = content ∙ ap (λ (n : ℕ). bytes_at b (q + blen) n) length in
    record {
      form = h.form;
      block0_magic = ap (λ (bytes : List ℕ). number_at bytes 0) (sym head) ∙ h.block0_magic;
      block1_magic = ap (λ (bytes : List ℕ). number_at bytes 128) (sym block) ∙ h.block1_magic;
      type_number = ap (λ (bytes : List ℕ). number_at bytes 8) (sym head) ∙ h.type_number;
      block_length = h.block_length ∙ ap (block_length h.form) head;
      right_length = h.right_length;
      not_empty = omega (arith, length, h.not_empty);
      within = omega (arith, length, room);
      certificate = λ c. sym length ∙ h.certificate c;
      digest256 = ap sha256 (sym content') ∙ h.digest256 ∙ ap (λ (bytes : List ℕ). bytes_at bytes 16 32) head;
      digest384 = ap sha384 (sym content') ∙ h.digest384 ∙ ap (λ (bytes : List ℕ). bytes_at bytes 48 48) head;
    }

-- A chain is one wherever its block and its content stand, within any length that has room for both.
pub IsChain-moved : (a b : List ℕ) (p q len len' n : ℕ) (type : ContentType) (root row : List ℕ) (accepts : Acceptance) (chain : Chain)
    → bytes_at a p n ≡ bytes_at b q n → span_of p chain ≤ n → span_of p chain ≤ len'
    → IsChain a p len type root row accepts chain → IsChain b q len' type root row accepts (moved p q chain)
unfolding BlockAt-moved
IsChain-moved a b p q len len' n type root row accepts chain same spans room h =
    let blen : ℕ = h.blen in
    let least : 1024 ≤ blen = h.block.right_length.least in
    let end : blen + content_length (head_at a p) ≤ n = omega (arith, h.content_at, h.length) in
    let fits : blen + content_length (head_at a p) ≤ len' = omega (arith, h.content_at, h.length) in
    let head : head_at a p ≡ head_at b q = same_front a b p q n 128 same (omega arith) in
    let block : bytes_at a p blen ≡ bytes_at b q blen = same_front a b p q n blen same (omega arith) in
    let P : List ℕ → Type 0 = λ bytes. IsBlock1 h.block.form bytes type root row accepts chain.key in
    record {
      blen = blen;
      block = BlockAt-moved a b p q len len' type blen h.block head block (same_part a b p q n blen (content_length (head_at a p)) same end) fits;
      signed = subst P block h.signed;
      content_at = omega (arith, h.content_at);
      length = h.length ∙ ap content_length head;
    }
