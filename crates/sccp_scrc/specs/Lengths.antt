-- Lengths with which a message can be written, whatever else it says (ITU-T Q.713 sections 2.2 and 2.3).
use Rattle.std.specs.Prelude.{◌≡◌, ℕ, ◌+◌, ◌≤◌, ◌⊎◌, true, List, []}
use Rattle.sccp_layout.specs.Joining.{are_short}
use Rattle.sccp_layout.specs.Parameter.{Parameter}

-- of UDT and UDTS, by the octets of both addresses and of the data
pub record FitsShort (called calling payload : ℕ) : Type 0 where
  pub addresses : called + calling ≤ 252
  pub payload_fits : payload ≤ 255

-- of XUDT and XUDTS; a pointer passes over the data only if there are parameters
pub record FitsExtended (called calling payload : ℕ) (params : List Parameter) : Type 0 where
  pub addresses : called + calling ≤ 251
  pub payload_fits : payload ≤ 255
  pub behind : (params ≡ []) ⊎ ((called + calling + payload ≤ 251) × (are_short params ≡ true))

-- of LUDT and LUDTS
pub record FitsLong (called calling payload : ℕ) (params : List Parameter) : Type 0 where
  pub called_fits : called ≤ 255
  pub calling_fits : calling ≤ 255
  pub payload_fits : called + calling + payload ≤ 65530
  pub params_fit : are_short params ≡ true
