use Rattle.std.proofs.Common.{List, ℕ, Bool, true, false, sym, subst, ◌∙◌}
use Rattle.std.specs.Prelude.{⊤}
use Rattle.std.specs.Bool.{MatchBool}
use Rattle.sccp_message.specs.Reads.{Reads}
use Rattle.sccp_message.proofs.Writing.{written_reads}
use Rattle.couple_chain.specs.World.{is_writable}
use Rattle.chain_world.specs.Kept.{network_of, world_of}
use Rattle.chain_world.specs.Offering.{is_memory}
use Rattle.chain_world.proofs.Happens.{early_stays, none_left, not_written}
use Rattle.chain_world.proofs.world.World.tested.Goals as goal
use Rattle.std.specs.Prelude.{not}

unless : (b : Bool) (P : Type 0) → P → MatchBool b ⊤ P
unless true P p = tt
unless false P p = p

pub returns-in-Some-clause-fault : goal.returns-in-Some-clause-fault
returns-in-Some-clause-fault c =
    unless (is_memory c.in-Some.fault) _
    (early_stays (network_of c.args.self.now.plan) (world_of c.args.self.now) c.args.from c.args.to c.args.read.now c.in-Some.fault
    (not (is_writable c.args.read.now)) (sym c.early_fault.ensures ∙ c.in-Some.is))

pub vouch_short-requires-clause-reads : goal.vouch_short-requires-clause-reads
vouch_short-requires-clause-reads c =
    let t = none_left (network_of c.args.self.now.plan) (world_of c.args.self.now) c.args.from c.args.to c.args.read.now c.in-Some-2.octets
    (sym c.early_fault.ensures ∙ c.in_default.is) c.requires.sound (sym c.in_ok-octets_of.ensures ∙ c.in-Some-2.is) in
    subst (λ (b : List ℕ). Reads b c.args.read.now) (sym (c.as_slice.ensures ∙ t.1))
    (written_reads c.args.read.now c.requires.is_message c.requires.sound)

pub returns-in-None-clause-fault : goal.returns-in-None-clause-fault
returns-in-None-clause-fault c =
    not_written (network_of c.args.self.now.plan) (world_of c.args.self.now) c.args.from c.args.to c.args.read.now
    (sym c.early_fault.ensures ∙ c.in_default.is) (sym c.in_ok-octets_of.ensures ∙ c.in-None.is)
