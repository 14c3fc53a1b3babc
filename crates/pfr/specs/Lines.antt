-- The line of a status.
use Rattle.std.specs.Prelude.{ℕ, List, [], ◌++◌, codes, decimal}
use Rattle.pfr_engine.specs.Why.{word_of}
use Rattle.pfr_script.specs.Why as script
use Rattle.pfr.specs.DescriptionLines.{description_text}
use Rattle.pfr.specs.declared.status.Role.{Role}
use Rattle.pfr.specs.declared.status.Role.TheVariants as role
use Rattle.pfr.specs.declared.status.Why.{Why}
use Rattle.pfr.specs.declared.status.Why.TheVariants as why
use Rattle.pfr.specs.declared.status.Status.{Status}
use Rattle.pfr.specs.declared.status.Status.TheVariants.{Done, Usage, BadInput, TooLong, ReadFault, WriteFault, StoreFault, NoMemory}

abbrev pub role_word : Role → List ℕ
role_word role.Bmc = codes "bmc"
role_word role.Pch = codes "pch"
role_word role.Nv = codes "nv"
role_word role.Engine = codes "engine"
role_word role.Script = codes "script"
role_word role.Description = codes "description"
role_word role.BmcImage = codes "bmc-image"
role_word role.PchImage = codes "pch-image"
role_word role.BmcStaged = codes "bmc-staged"
role_word role.PchStaged = codes "pch-staged"
role_word role.BmcCapsule = codes "bmc-capsule"
role_word role.PchCapsule = codes "pch-capsule"
role_word role.Cert = codes "cert"

abbrev pub why_text : Why → List ℕ
why_text why.Size = codes "size"
why_text (why.Engine cause) = word_of cause
why_text (why.Script cause) = script.word_of cause
why_text (why.Description cause) = description_text cause

-- what a status writes; a command that was done and a sink that failed write nothing
abbrev pub error_line : Status → List ℕ
error_line Done = []
error_line Usage = codes "error: usage\n"
error_line (BadInput file place why) = codes "error: " ++ (role_word file ++ (codes " " ++ (decimal place ++ (codes " " ++ (why_text why ++ codes "\n")))))
error_line (TooLong file) = codes "error: " ++ (role_word file ++ codes " too long\n")
error_line (ReadFault file) = codes "error: cannot read " ++ (role_word file ++ codes "\n")
error_line WriteFault = []
error_line (StoreFault file) = codes "error: cannot store " ++ (role_word file ++ codes "\n")
error_line NoMemory = codes "error: no memory\n"

abbrev pub code_of : Status → ℕ
code_of Done = 0
code_of Usage = 2
code_of (BadInput _ _ _) = 3
code_of (TooLong _) = 3
code_of (ReadFault _) = 4
code_of WriteFault = 5
code_of (StoreFault _) = 6
code_of NoMemory = 7
