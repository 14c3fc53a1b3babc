-- How many cuts and faults each device has.
use Rattle.std.specs.Prelude.{ℕ, ◌+◌, if◌then◌else◌}
use Rattle.pfr_flash.specs.declared.names.Device.{Device}
use Rattle.pfr_flash.specs.declared.names.Device.TheVariants.{Bmc, Pch, Nv}
use Rattle.pfr_script.specs.declared.arm.ArmWhat.{ArmWhat}
use Rattle.pfr_script.specs.declared.arm_counts.ArmCounts.{ArmCounts}
use Rattle.pfr_script.specs.Arms.{is_counted}

abbrev pub count_of : ArmCounts → Device → ℕ
count_of counts Bmc = counts.bmc
count_of counts Pch = counts.pch
count_of counts Nv = counts.nv

-- one more of a device
abbrev pub raised : ArmCounts → Device → ArmCounts
raised counts Bmc = record counts { bmc = counts.bmc + 1 }
raised counts Pch = record counts { pch = counts.pch + 1 }
raised counts Nv = record counts { nv = counts.nv + 1 }

-- one more of a device, where it counts
abbrev pub counted : ArmCounts → Device → ArmWhat → ArmCounts
counted counts device what = if is_counted what then raised counts device else counts
