-- Worked rows: a connection over two relays, and one that is refused.
use Rattle.std.specs.Prelude.{◌≡◌, [], ◌∷◌, Some, None, codes, refl}
use Rattle.plan_model.specs.Limits.{standard}
use Rattle.plan_model.specs.Network as plans
use Rattle.plan_rules.specs.Rule.{rule}
use Rattle.plan_rules.specs.declared.target.Target.TheVariants.{Relay, Final}
use Rattle.sccp_address.specs.Reading.{address_of}
use Rattle.sccp_layout.specs.Splitting.{parts_by}
use Rattle.sccp_message.specs.Reading.{message_in}
use Rattle.chain_world.specs.Kept.{kept}
use Rattle.chain_call.specs.declared.call.Call.{Call}
use Rattle.chain_call.specs.declared.outcome.Outcome.TheVariants.{Refused, Opened}
use Rattle.chain_call.specs.Course.{beginning}
use Rattle.chain_call.specs.Steps.{offered, handed_out, delivered, next_of, settled, requested, confirmed, sent_forth, sent_back, released}
use Rattle.chain_call.specs.Steps.{through, carried, carried_on, name_at, with_line, answer_to, outcome}

-- relay a at 1-0-2 sends titles of 49 to relay b at 1-0-3, which sends those of 0 to 2-0-1
two_relays : plans.Network
two_relays = record {
  limits = standard;
  nodes =
      record {
        name = codes "a";
        pc = 2050;
        subsystems = [];
        concerned = [];
        table = rule (record { kind = 4; translation = 0; plan = 1; nature = 4 }) None (4 ∷ 9 ∷ [])
            (Relay 2051 2 (0 ∷ []) (Some (record { kind = 4; translation = 0; plan = 1; nature = 3 })) None ∷ []) ∷ [];
      }
      ∷ record {
        name = codes "b";
        pc = 2051;
        subsystems = [];
        concerned = [];
        table = rule (record { kind = 4; translation = 0; plan = 1; nature = 3 }) None (0 ∷ []) (Final 4097 None ∷ []) ∷ [];
      }
      ∷ [];
  covers = [];
}

call : Call
call = record {
  from = 2049;
  entry = 2050;
  selector = record { kind = 4; translation = 0; plan = 1; nature = 4 };
  digits = 4 ∷ 9 ∷ 1 ∷ 7 ∷ 1 ∷ 0 ∷ 0 ∷ 0 ∷ 0 ∷ 0 ∷ 1 ∷ 2 ∷ [];
  ssn = Some 6;
  octets = 65 ∷ 66 ∷ 67 ∷ [];
}

opened : outcome call (beginning (kept two_relays [])) ≡ Opened (codes "a" ∷ codes "b" ∷ []) 4097
    (Some (record { forth = 65 ∷ 66 ∷ 67 ∷ []; back = 65 ∷ 66 ∷ 67 ∷ []; sections = 0 }))
unfolding call two_relays parts_by message_in address_of offered handed_out delivered next_of settled requested confirmed sent_forth
    sent_back released through carried carried_on name_at with_line answer_to outcome
opened = refl

refused : outcome (record call { digits = 4 ∷ 7 ∷ [] }) (beginning (kept two_relays [])) ≡ Refused 4
unfolding call two_relays parts_by message_in address_of offered handed_out delivered next_of settled requested confirmed sent_forth
    sent_back released through carried carried_on name_at with_line answer_to outcome
refused = refl
