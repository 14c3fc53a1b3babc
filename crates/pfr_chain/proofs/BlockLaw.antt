-- What the judgement of Block 0 and of the content tells, and when it ends well.
use Rattle.std.proofs.Common.{◌≡◌, ℕ, ◌≤◌, ◌<◌, ◌+◌, ◌-◌, true, not, ◌&&◌, ◌||◌, ◌==◌, nat_le, nat_lt, Some, Ok, List, refl, subst, arith}
use Rattle.std.specs.Bool.{Decides}
use Rattle.std.proofs.lemmas.Bool.Decides.{Decides-eqb, Decides-ltb, Decides-and, nat_tests}
use Rattle.std.proofs.lemmas.Slice.Eq.{bytes_eq-Decides}
use Rattle.pfr_flash.specs.Bytes.{bytes_at}
use Rattle.pfr_flash.specs.declared.names.ContentType.{ContentType}
use Rattle.pfr_flash.specs.Numbers.{number_at}
use Rattle.pfr_chain.specs.Types.{number_of, is_certificate}
use Rattle.pfr_chain.specs.Block.{magic_of_block0, block_length, content_length, IsBlockLength}
use Rattle.pfr_chain.specs.BlockJudge.{form_of, is_block_length, fits, judge_block0, judge_content}
use Rattle.pfr_chain.specs.declared.form.Form.{Form}
use Rattle.pfr_chain.specs.declared.form.Form.TheVariants.{One, Two}
use Rattle.pfr_chain.specs.declared.block0.Block0.{Block0}
use Rattle.pfr_chain.specs.declared.fail.ChainFail.TheVariants.{Block0Magic, WrongType, BlockLength, Length}
use Rattle.pfr_flash.proofs.JudgingLemmas.{passed, passed_known, goes_on, Decides-le, Decides-true, Decides-only}

-- what Block 0 says, where nothing is against it
pub record IsBlock0 (head : List ℕ) (type : ContentType) (len : ℕ) (said : Block0) : Type 0 where
  pub magic : number_at head 0 ≡ magic_of_block0 said.form
  pub type_number : number_at head 8 ≡ number_of type
  pub block_length : said.block_length ≡ block_length said.form head
  pub right_length : IsBlockLength said.block_length
  pub not_empty : 0 < said.length
  pub within : said.block_length + said.length ≤ len
  pub certificate : is_certificate type ≡ true → said.length ≡ 128
  pub length : said.length ≡ content_length head

form_holds : (magic : ℕ) (form : Form) → form_of magic ≡ Some form → magic ≡ magic_of_block0 form
form_holds magic One h = grind (arith, nat_tests)
form_holds magic Two h = grind (arith, nat_tests)

form_ends : (magic : ℕ) (form : Form) → magic ≡ magic_of_block0 form → form_of magic ≡ Some form
form_ends magic One h = rw h refl
form_ends magic Two h = rw h refl

length_holds : (n len : ℕ) → (is_block_length n && nat_le n len) ≡ true → IsBlockLength n × (n ≤ len)
length_holds n len h = grind (arith, nat_tests)

length_ends : (n len : ℕ) → IsBlockLength n → n ≤ len → (is_block_length n && nat_le n len) ≡ true
length_ends n len h k = grind (arith, nat_tests)

Decides-fits : (type : ContentType) (n room : ℕ) → Decides (fits type n room) ((0 < n) × (n ≤ room) × (is_certificate type ≡ true → n ≡ 128))
Decides-fits type n room =
    let t : Decides (nat_lt 0 n && nat_le n room && (not (is_certificate type) || n == 128)) (((0 < n) × (n ≤ room)) × (is_certificate type ≡ true → n ≡ 128)) = Decides-and (nat_lt 0 n && nat_le n room) (not (is_certificate type) || n == 128) (Decides-and (nat_lt 0 n) (nat_le n room) (Decides-ltb 0 n) (Decides-le n room)) (Decides-only (is_certificate type) n 128) in
    (λ h. let p = t.0 h in (p.0.0, p.0.1, p.1), λ h. t.1 ((h.0, h.1), h.2))

pub block0_holds : (head : List ℕ) (type : ContentType) (len : ℕ) (said : Block0) → judge_block0 head type len ≡ Ok said → IsBlock0 head type len said
unfolding judge_block0
block0_holds head type len said h =
    let f = passed_known Block0Magic (form_of (number_at head 0)) _ said h in
    let blen : ℕ = block_length f.0 head in
    let t = passed WrongType (number_at head 8 == number_of type) _ said (Decides-eqb _ _) f.2 in
    let l = passed BlockLength (is_block_length blen && nat_le blen len) _ said (Decides-true _) t.1 in
    let s = passed Length (fits type (content_length head) (len - blen)) _ said (Decides-fits type (content_length head) (len - blen)) l.1 in
    let right = length_holds blen len l.0 in
    let made : Block0 = record { form = f.0; block_length = blen; length = content_length head } in
    let is : made ≡ said = cc in
    let P : Block0 → Type 0 = λ b. IsBlock0 head type len b in
    subst P is (record {
      magic = form_holds (number_at head 0) f.0 f.1;
      type_number = t.0;
      block_length = refl;
      right_length = right.0;
      not_empty = s.0.0;
      within = omega (arith, right.1, s.0.1);
      certificate = s.0.2;
      length = refl;
    })

pub block0_ends : (head : List ℕ) (type : ContentType) (len : ℕ) (form : Form) (blen : ℕ) → number_at head 0 ≡ magic_of_block0 form → number_at head 8 ≡ number_of type
    → block_length form head ≡ blen → IsBlockLength blen → 0 < content_length head → blen + content_length head ≤ len → (is_certificate type ≡ true → content_length head ≡ 128)
    → judge_block0 head type len ≡ Ok (record { form = form; block_length = blen; length = content_length head })
unfolding judge_block0
block0_ends head type len form blen magic number is right some within certificate =
    rw (
      form_ends (number_at head 0) form magic,
      goes_on WrongType (number_at head 8 == number_of type) _ (Decides-eqb _ _) number,
      is,
      goes_on BlockLength (is_block_length blen && nat_le blen len) _ (Decides-true _) (length_ends blen len right (omega arith)),
      goes_on Length (fits type (content_length head) (len - blen)) _ (Decides-fits type (content_length head) (len - blen)) (some, omega arith, certificate),
    ) refl

pub content_holds : (head d e : List ℕ) → judge_content head d e ≡ Ok tt → (d ≡ bytes_at head 16 32) × (e ≡ bytes_at head 48 48)
unfolding judge_content
content_holds head d e h = grind (arith, bytes_eq-Decides)

pub content_ends : (head d e : List ℕ) → d ≡ bytes_at head 16 32 → e ≡ bytes_at head 48 48 → judge_content head d e ≡ Ok tt
unfolding judge_content
content_ends head d e p q = let a = (bytes_eq-Decides _ _).1 p in let b = (bytes_eq-Decides _ _).1 q in grind arith
