-- What a report says of a tenants text.
use Rattle.std.specs.Prelude.{◌≢◌, ℕ, List}
use Rattle.hdl_tenants.specs.Register.{Register}
use Rattle.hdl_tenants.specs.Text.{IsAccepted, IsFirstFault}
use Rattle.hdl_tenants.specs.declared.fault.TenantFault.{TenantFault}
use Rattle.hdl_tenants.specs.declared.fault.TenantFault.TheVariants.{Memory}
use Rattle.hdl_tenants_check.specs.declared.report.Report.{Report}
use Rattle.hdl_tenants_check.specs.declared.report.Report.TheVariants.{Accepted, Refused}

-- the service accepts the text; or it refuses it, and not for want of memory
abbrev pub IsReportOf : List (List ℕ) → Report → Type 0
IsReportOf texts (Accepted told) = (register : Register) × IsAccepted texts register
IsReportOf texts (Refused faults) = (line : ℕ) × (fault : TenantFault) × (fault ≢ Memory) × IsFirstFault texts line fault
