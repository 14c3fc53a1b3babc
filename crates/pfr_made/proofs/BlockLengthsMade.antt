-- How long the parts of a made block are.
use Rattle.std.proofs.Common.{◌≡◌, ℕ, ◌<◌, ◌^◌, List, ◌++◌, length, arith, length-append}
use Rattle.sha2.proofs.Facts512.{length-sha384}
use Rattle.pfr_engine.specs.Curves.{signature_magic}
use Rattle.pfr_engine.specs.declared.engine.Ask.{Ask}
use Rattle.pfr_engine.specs.declared.engine.Curve.{Curve}
use Rattle.pfr_engine.specs.declared.engine.Curve.TheVariants.{C256, C384}
use Rattle.pfr_engine.specs.declared.engine.Digest.{Digest}
use Rattle.pfr_chain.specs.Keys.{any, digest_on}
use Rattle.pfr_made.specs.Fields.{number_bytes}
use Rattle.pfr_made.specs.Form1 as form1
use Rattle.pfr_made.specs.Form2 as form2
use Rattle.pfr_made.specs.Marks.{number_of_curve, mark_of, marks_of}
use Rattle.pfr_description.specs.Typed.{IsKeyValue}
use Rattle.pfr_made.proofs.BlockPartsMade.{length-number, length-zeros, length-padded}
use Rattle.pfr_description.specs.Described.{Description}
use Rattle.pfr_description.specs.declared.keys.KeyDescription.{KeyDescription}
use Rattle.pfr_description.specs.declared.keys.PublicKey.{PublicKey}

pub fits-curve : (curve : Curve) → number_of_curve curve < 2 ^ 32
fits-curve C256 = omega arith
fits-curve C384 = omega arith

pub length-mark : (letter : ℕ) (key : PublicKey) (digest : Digest) → length (mark_of letter key digest) ≡ 48
unfolding mark_of
length-mark letter key digest = length-sha384 _

-- R and S have 48 bytes each
pub record IsMark (marks : Ask) : Type 0 where
  pub r : length marks.r ≡ 48
  pub s : length marks.s ≡ 48

pub marks_long : (curve : Curve) (key : PublicKey) (message : List ℕ) → IsMark (marks_of curve key message)
marks_long curve key message = record { r = length-mark 0x52 key (digest_on curve message); s = length-mark 0x53 key (digest_on curve message) }

-- ---- form 1
pub length-key_fields1 : (curve : Curve) (permissions id : ℕ) (key : PublicKey) → IsKeyValue key
    → length (number_bytes (number_of_curve curve) ++ number_bytes permissions ++ number_bytes id ++ key.x ++ key.y) ≡ 108
length-key_fields1 curve permissions id key k = simp length-append (omega (arith, length-number (number_of_curve curve), length-number permissions, length-number id, k.x, k.y))

pub length-key1 : (curve : Curve) (permissions id : ℕ) (key : PublicKey) → IsKeyValue key → length (form1.key_bytes curve permissions id key) ≡ 128
unfolding form1.key_bytes
length-key1 curve permissions id key k =
    length-padded 128 (number_bytes (number_of_curve curve) ++ number_bytes permissions ++ number_bytes id ++ key.x ++ key.y) (omega (arith, length-key_fields1 curve permissions id key k))

pub length-signature1 : (marks : Ask) → IsMark marks → length (form1.signature_bytes marks) ≡ 100
unfolding form1.signature_bytes
length-signature1 marks m = simp length-append (omega (arith, length-number (signature_magic marks.curve), m.r, m.s))

pub length-head1 : (desc : Description) → IsKeyValue desc.root → length (form1.head_bytes desc) ≡ 148
unfolding form1.head_bytes
length-head1 desc root = simp length-append (omega (arith, length-number 0xF27F28D7, length-zeros 12, length-number 0xA757A046, length-key1 desc.curve any any desc.root root))

pub length-key_entry1 : (desc : Description) (key : KeyDescription) → IsKeyValue key.key → length (form1.key_entry desc key) ≡ 232
unfolding form1.key_entry
length-key_entry1 desc key k =
    let signed : length (form1.signed_key desc key) ≡ 128 = length-key1 desc.curve key.permissions key.id key.key k in
    let marks : length (form1.signature_bytes (form1.marks_on_key desc key)) ≡ 100 = length-signature1 (form1.marks_on_key desc key) (marks_long desc.curve desc.root (form1.signed_key desc key)) in
    simp length-append (omega (arith, length-number 0x14711C2F, signed, marks))

pub length-block0_entry1 : (marks : Ask) → IsMark marks → length (form1.block0_entry marks) ≡ 104
unfolding form1.block0_entry
length-block0_entry1 marks m = simp length-append (omega (arith, length-number 0x15364367, length-signature1 marks m))

-- ---- form 2
pub length-key2 : (curve : Curve) (permissions id : ℕ) (key : PublicKey) → IsKeyValue key → length (form2.key_bytes curve permissions id key) ≡ 112
unfolding form2.key_bytes
length-key2 curve permissions id key k =
    simp length-append (omega (arith, length-number permissions, length-number id, length-number (number_of_curve curve), length-number 96, k.x, k.y))

pub length-signature2 : (marks : Ask) → IsMark marks → length (form2.signature_bytes marks) ≡ 100
unfolding form2.signature_bytes
length-signature2 marks m = simp length-append (omega (arith, length-number 96, m.r, m.s))

pub length-head2 : (desc : Description) → IsKeyValue desc.root → length (form2.head_bytes desc) ≡ 132
unfolding form2.head_bytes
length-head2 desc root = simp length-append (omega (arith, length-number 0xF27F28D8, length-zeros 12, length-number 0xA757A047, length-key2 desc.curve any any desc.root root))

pub length-key_entry2 : (desc : Description) (key : KeyDescription) → IsKeyValue key.key → length (form2.key_entry desc key) ≡ 216
unfolding form2.key_entry
length-key_entry2 desc key k =
    let signed : length (form2.signed_key desc key) ≡ 112 = length-key2 desc.curve key.permissions key.id key.key k in
    let marks : length (form2.signature_bytes (form2.marks_on_key desc key)) ≡ 100 = length-signature2 (form2.marks_on_key desc key) (marks_long _ desc.root (form2.signed_key desc key)) in
    simp length-append (omega (arith, length-number 0x14711C30, signed, marks))

pub length-block0_entry2 : (marks : Ask) → IsMark marks → length (form2.block0_entry marks) ≡ 104
unfolding form2.block0_entry
length-block0_entry2 marks m = simp length-append (omega (arith, length-number 0x15364368, length-signature2 marks m))
