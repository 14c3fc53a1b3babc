-- The words of causes.
use Rattle.std.specs.Prelude.{ℕ, List, [], ◌++◌, codes, decimal, Option, Some, None}
use Rattle.pfr_flash.specs.Answer.{IsFound}
use Rattle.pfr_flash.specs.declared.layout.LayoutRule.{LayoutRule}
use Rattle.pfr_flash.specs.declared.layout.LayoutRule.TheVariants as rule
use Rattle.pfr_chain.specs.declared.fail.ChainFail.{ChainFail}
use Rattle.pfr_chain.specs.declared.fail.ChainFail.TheVariants as chain
use Rattle.pfr_manifest.specs.declared.fail.ManifestFail.{ManifestFail}
use Rattle.pfr_manifest.specs.declared.fail.ManifestFail.TheVariants as manifest
use Rattle.pfr_smbus.specs.declared.cause.SmbusCause.{SmbusCause}
use Rattle.pfr_smbus.specs.declared.cause.SmbusCause.TheVariants as smbus
use Rattle.pfr_filter.specs.declared.verdict.BlockCause.{BlockCause}
use Rattle.pfr_filter.specs.declared.verdict.BlockCause.TheVariants as block
use Rattle.pfr_capsule.specs.Answer.{capsule_failure}
use Rattle.pfr_capsule.specs.declared.fail.CapsuleFail.{CapsuleFail}
use Rattle.pfr_capsule.specs.declared.fail.CapsuleFail.TheVariants as capsule
use Rattle.pfr_cert.specs.declared.fail.CertFail.{CertFail}
use Rattle.pfr_cert.specs.declared.fail.CertFail.TheVariants as cert
use Rattle.pfr_flash.specs.declared.names.ContentType.{ContentType}
use Rattle.pfr_flash.specs.declared.names.ContentType.TheVariants as type
use Rattle.pfr_jobs.specs.declared.job.JobKind.{JobKind}
use Rattle.pfr_jobs.specs.declared.job.JobKind.TheVariants as job
use Rattle.pfr_auth.specs.Answer.{active_failure}
use Rattle.pfr_auth.specs.declared.fail.ActiveFail.{ActiveFail}
use Rattle.pfr_auth.specs.declared.fail.ActiveFail.TheVariants as active

abbrev pub rule_word : LayoutRule → List ℕ
rule_word rule.Align = codes "align"
rule_word rule.Outside = codes "outside"
rule_word rule.Overlap = codes "overlap"

-- A failed device has no word: no note's cause has one.
abbrev pub chain_word : ChainFail → List ℕ
chain_word chain.ShortBlock = codes "short-block"
chain_word chain.Block0Magic = codes "block0-magic"
chain_word chain.WrongType = codes "type"
chain_word chain.BlockLength = codes "block-length"
chain_word chain.Length = codes "length"
chain_word chain.Digest256 = codes "digest256"
chain_word chain.Digest384 = codes "digest384"
chain_word chain.Block1Magic = codes "block1-magic"
chain_word chain.RootEntry = codes "root-entry"
chain_word chain.RootHash = codes "root-hash"
chain_word chain.KeyEntry = codes "key-entry"
chain_word chain.KeyId = codes "key-id"
chain_word chain.Permission = codes "permission"
chain_word chain.Cancelled = codes "cancelled"
chain_word chain.KeySignature = codes "key-signature"
chain_word chain.Block0Entry = codes "block0-entry"
chain_word chain.Block0Signature = codes "block0-signature"
chain_word (chain.Flash f) = []

-- The word of a manifest's cause, and the place or the region's number behind it.
abbrev pub manifest_word : ManifestFail → List ℕ
manifest_word manifest.Magic = codes "magic"
manifest_word manifest.Svn = codes "svn"
manifest_word manifest.Length = codes "length"
manifest_word (manifest.EntryType place) = codes "entry-type"
manifest_word manifest.TooMany = codes "too-many"
manifest_word (manifest.HashInfo k) = codes "hash-info"
manifest_word (manifest.WritableHashed k) = codes "writable-hashed"
manifest_word (manifest.Align k) = codes "align"
manifest_word (manifest.Range k) = codes "range"
manifest_word (manifest.Order k) = codes "order"
manifest_word (manifest.Overlap k) = codes "overlap"
manifest_word manifest.Tail = codes "tail"
manifest_word (manifest.Flash f) = []

abbrev pub manifest_number : ManifestFail → Option ℕ
manifest_number (manifest.EntryType place) = Some place
manifest_number (manifest.HashInfo k) = Some k
manifest_number (manifest.WritableHashed k) = Some k
manifest_number (manifest.Align k) = Some k
manifest_number (manifest.Range k) = Some k
manifest_number (manifest.Order k) = Some k
manifest_number (manifest.Overlap k) = Some k
manifest_number cause = None

-- the number behind a word, with a colon before it
abbrev pub colon : Option ℕ → List ℕ
colon None = []
colon (Some number) = codes ":"

abbrev pub digits : Option ℕ → List ℕ
digits None = []
digits (Some number) = decimal number

abbrev pub numbered : List ℕ → Option ℕ → List ℕ
numbered word number = word ++ (colon number ++ digits number)

-- The word of a cause for which a frame on an SPI bus is blocked, and the number of the page behind it.
abbrev pub block_word : BlockCause → List ℕ
block_word block.Opcode = codes "opcode"
block_word block.ChipErase = codes "chip-erase"
block_word block.ShortFrame = codes "short-frame"
block_word block.Range = codes "range"
block_word (block.NotWritable page) = codes "not-writable"
block_word block.NoLatch = codes "no-latch"

abbrev pub block_number : BlockCause → Option ℕ
block_number (block.NotWritable page) = Some page
block_number cause = None

abbrev pub block_text : BlockCause → List ℕ
block_text cause = numbered (block_word cause) (block_number cause)

-- the same of a frame on an SMBus
abbrev pub smbus_word : SmbusCause → List ℕ
smbus_word smbus.ShortFrame = codes "short-frame"
smbus_word smbus.BadAddress = codes "bad-address"
smbus_word smbus.NoRule = codes "no-rule"
smbus_word smbus.Command = codes "command"

-- what is before the word of an active image's cause, its word, and its number
abbrev pub active_kind : ActiveFail → List ℕ
active_kind (active.Chain cause) = codes "chain:"
active_kind (active.Manifest cause) = codes "manifest:"
active_kind cause = []

abbrev pub active_word : ActiveFail → List ℕ
active_word (active.Chain cause) = chain_word cause
active_word (active.Manifest cause) = manifest_word cause
active_word active.SvnFloor = codes "svn-floor"
active_word (active.RegionHash k) = codes "region-hash"
active_word (active.Flash f) = []

abbrev pub active_number : ActiveFail → Option ℕ
active_number (active.Manifest cause) = manifest_number cause
active_number (active.RegionHash k) = Some k
active_number cause = None

-- the text of an active image's cause
abbrev pub active_text : ActiveFail → List ℕ
active_text cause = active_kind cause ++ numbered (active_word cause) (active_number cause)

-- the same of a capsule's cause
abbrev pub capsule_kind : CapsuleFail → List ℕ
capsule_kind (capsule.Chain cause) = codes "chain:"
capsule_kind (capsule.ManifestChain cause) = codes "manifest-chain:"
capsule_kind (capsule.Manifest cause) = codes "manifest:"
capsule_kind cause = []

abbrev pub capsule_word : CapsuleFail → List ℕ
capsule_word (capsule.Chain cause) = chain_word cause
capsule_word (capsule.ManifestChain cause) = chain_word cause
capsule_word (capsule.Manifest cause) = manifest_word cause
capsule_word capsule.SvnFloor = codes "svn-floor"
capsule_word capsule.PbcHeader = codes "pbc-header"
capsule_word capsule.MapBits = codes "map-bits"
capsule_word capsule.BodyLength = codes "body-length"
capsule_word (capsule.CopyNotErase page) = codes "copy-not-erase"
capsule_word (capsule.PageOutside page) = codes "page-outside"
capsule_word capsule.PayloadLength = codes "payload-length"
capsule_word (capsule.StaticNotCovered k) = codes "static-not-covered"
capsule_word (capsule.Incoherent k) = codes "incoherent"
capsule_word (capsule.Flash f) = []

abbrev pub capsule_number : CapsuleFail → Option ℕ
capsule_number (capsule.Manifest cause) = manifest_number cause
capsule_number (capsule.CopyNotErase page) = Some page
capsule_number (capsule.PageOutside page) = Some page
capsule_number (capsule.StaticNotCovered k) = Some k
capsule_number (capsule.Incoherent k) = Some k
capsule_number cause = None

abbrev pub capsule_text : CapsuleFail → List ℕ
capsule_text cause = capsule_kind cause ++ numbered (capsule_word cause) (capsule_number cause)

-- the same of a certificate's cause, which names no number
abbrev pub cert_kind : CertFail → List ℕ
cert_kind (cert.Chain cause) = codes "chain:"
cert_kind cause = []

abbrev pub cert_word : CertFail → List ℕ
cert_word (cert.Chain cause) = chain_word cause
cert_word cert.Body = codes "body"
cert_word cert.KeyId = codes "key-id"
cert_word cert.OtherBank = codes "other-bank"
cert_word cert.KeyInUse = codes "key-in-use"
cert_word cert.AlreadyCancelled = codes "already-cancelled"
cert_word (cert.Flash f) = []

abbrev pub cert_text : CertFail → List ℕ
cert_text cause = cert_kind cause ++ cert_word cause

-- the word of a signing type; no key of another type is cancelled
abbrev pub type_word : ContentType → List ℕ
type_word type.PchManifest = codes "pch-manifest"
type_word type.PchCapsule = codes "pch-capsule"
type_word type.BmcManifest = codes "bmc-manifest"
type_word type.BmcCapsule = codes "bmc-capsule"
type_word type = []

-- the word of a kind of jobs
abbrev pub kind_word : JobKind → List ℕ
kind_word (job.ActiveFromRecovery level) = codes "active-from-recovery"
kind_word (job.ActiveFromStaging dynamic) = codes "active-from-staging"
kind_word job.RecoveryFromStaging = codes "recovery-from-staging"

-- both causes of a bank without a good image are such
pub record AreFound (active : ActiveFail) (recovery : CapsuleFail) : Type 0 where
  pub first : IsFound active_failure active
  pub second : IsFound capsule_failure recovery
