-- A chain is one under any row in which its key isn't cancelled.
use Rattle.std.proofs.Common.{◌≡◌, sym, subst, ℕ, false, List, Option, Some}
use Rattle.pfr_flash.specs.Bytes.{bytes_at}
use Rattle.pfr_flash.specs.FuseRow.{is_cleared}
use Rattle.pfr_flash.specs.declared.names.ContentType.{ContentType}
use Rattle.pfr_engine.specs.Acceptance.{Acceptance}
use Rattle.pfr_chain.specs.Chain.{IsBlock1, IsChain}
use Rattle.pfr_chain.specs.Keys.{MaySign}
use Rattle.pfr_chain.specs.declared.form.Form.{Form}
use Rattle.pfr_chain.specs.declared.form.Form.TheVariants.{One, Two}
use Rattle.pfr_chain.specs.declared.judging.Chain.{Chain}

may_sign : (key_id permissions : ℕ) (type : ContentType) (row row' : List ℕ) (id : ℕ) → id ≡ key_id → is_cleared row' id ≡ false → MaySign key_id permissions type row → MaySign key_id permissions type row'
may_sign key_id permissions type row row' id named free m = record { id = m.id; permission = m.permission; not_cancelled = subst (λ (k : ℕ). is_cleared row' k ≡ false) named free }

-- a block signed by a key is so with any row that doesn't cancel this key
block1_free : (form : Form) (block : List ℕ) (type : ContentType) (root row row' : List ℕ) (accepts : Acceptance) (id : ℕ) → is_cleared row' id ≡ false
    → IsBlock1 form block type root row accepts (Some id) → IsBlock1 form block type root row' accepts (Some id)
block1_free One block type root row row' accepts id free h =
    let s = h.signer in
    let k = s.key in
    record {
      curve = h.curve;
      root_entry = h.root_entry;
      signer = record {
        no_certificate = s.no_certificate;
        key = record { magic = k.magic; same_curve = k.same_curve; named = k.named; may_sign = may_sign _ _ type row row' id k.named free k.may_sign; signed = k.signed };
        entry = s.entry;
      };
    }
block1_free Two block type root row row' accepts id free h =
    let s = h.signer in
    let k = s.key in
    record {
      root_entry = h.root_entry;
      signer = record {
        no_certificate = s.no_certificate;
        key = record {
          magic = k.magic;
          scheme = k.scheme;
          key_length = k.key_length;
          signature = k.signature;
          named = k.named;
          may_sign = may_sign _ _ type row row' id k.named free k.may_sign;
          accepted = k.accepted;
        };
        entry = s.entry;
      };
    }

-- A chain of a key is one with any row that doesn't cancel this key.
pub IsChain-free : (image : List ℕ) (place len : ℕ) (type : ContentType) (root row row' : List ℕ) (accepts : Acceptance) (chain : Chain) (id : ℕ)
    → chain.key ≡ Some id → is_cleared row' id ≡ false → IsChain image place len type root row accepts chain → IsChain image place len type root row' accepts chain
IsChain-free image place len type root row row' accepts chain id named free h =
    let signed : IsBlock1 h.block.form (bytes_at image place h.blen) type root row accepts (Some id) =
    subst (λ (key : Option ℕ). IsBlock1 h.block.form (bytes_at image place h.blen) type root row accepts key) named h.signed in
    record {
      blen = h.blen;
      block = h.block;
      signed = subst (λ (key : Option ℕ). IsBlock1 h.block.form (bytes_at image place h.blen) type root row' accepts key) (sym named)
          (block1_free h.block.form (bytes_at image place h.blen) type root row row' accepts id free signed);
      content_at = h.content_at;
      length = h.length;
    }
