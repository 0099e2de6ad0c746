-- Why there is no connection.
use Rattle.std.specs.Prelude.{◌≡◌, ◌⊎◌}
use Rattle.hdl_client.specs.declared.fault.ClientFault.{ClientFault}
use Rattle.hdl_client.specs.declared.fault.ClientFault.TheVariants.{Memory, NoConnection}
use Rattle.hdl_client.specs.declared.fault.ConnectFault.{ConnectFault}

-- There is no connection, and the fault says why; or memory is short.
abbrev pub IsUnconnected : ClientFault → Type 0
IsUnconnected fault = (fault ≡ Memory) ⊎ ((why : ConnectFault) × (fault ≡ NoConnection why))
