-- What a provision does in the store, and what is noted of it.
use Rattle.std.specs.Prelude.{ℕ, List, [], Result, Ok, Err}
use Rattle.pfr_flash.specs.Operation.{Operation}
use Rattle.pfr_fuses.specs.Provisioning.{provision_plan}
use Rattle.pfr_fuses.specs.declared.fuse_fail.FuseFail.{FuseFail}
use Rattle.pfr_fuses.specs.declared.root_slot.RootSlot.{RootSlot}
use Rattle.pfr_report.specs.declared.note.What.{What}
use Rattle.pfr_report.specs.declared.note.What.TheVariants.{Provisioned, ProvisionRefused}
use Rattle.pfr_story.specs.Plans.{refusal_of}

abbrev pub provision_ops : RootSlot → Result ℕ FuseFail → List Operation
provision_ops what (Ok number) = provision_plan number what
provision_ops what (Err cause) = []

abbrev pub provision_note : Result ℕ FuseFail → What
provision_note (Ok number) = Provisioned
provision_note (Err cause) = ProvisionRefused (refusal_of cause)
