-- What a relay leaves of a message as it is.
use Rattle.std.specs.Prelude.{◌≡◌, ℕ, true, Some}
use Rattle.sccp_address.specs.declared.address.Address.{Address}
use Rattle.sccp_message.specs.declared.message.Message.{Message}
use Rattle.sccp_scrc.specs.Unitdata.{redirected}

-- Another message of the same type, with the same class or cause, calling address, data and optional parameters. Its called
-- address and its hop counter may differ.
pub record SameData (old new : Message) : Type 0 where
  pub called : Address
  pub hops : ℕ
  pub same : new ≡ redirected called (λ n. hops) old

-- the same data for a subsystem of the destination
pub record IsFor (ssn : ℕ) (old new : Message) : Type 0 where
  pub called : Address
  pub hops : ℕ
  pub same : new ≡ redirected called (λ n. hops) old
  pub on_ssn : called.by_ssn ≡ true
  pub subsystem : called.ssn ≡ Some ssn
