-- Each message is of one kind, so its lines are those of the four kinds together.
use Rattle.std.proofs.Common.{◌≡◌, List, ℕ, [], ◌++◌, refl}
use Rattle.std.proofs.lemmas.List.{append-nil}
use Rattle.sccp_message.specs.declared.message.Message.{Message}
use Rattle.sccp_message.specs.declared.message.Message.TheVariants as messages
use Rattle.sccp_report.specs.MessageText.{message_lines, lines_if, is_unit, has_parameters, is_of_data, is_of_references}

last : (xs : List ℕ) → xs ++ [] ≡ xs
last xs = append-nil xs

pub by_kind : (m : Message) → lines_if is_unit m ++ (lines_if has_parameters m ++ (lines_if is_of_data m ++ lines_if is_of_references m))
    ≡ message_lines m
by_kind (messages.Cr slr class to params) = last (message_lines (messages.Cr slr class to params))
by_kind (messages.Cc dlr slr class params) = last (message_lines (messages.Cc dlr slr class params))
by_kind (messages.Cref dlr cause params) = last (message_lines (messages.Cref dlr cause params))
by_kind (messages.Rlsd dlr slr cause params) = last (message_lines (messages.Rlsd dlr slr cause params))
by_kind (messages.Rlc dlr slr) = refl
by_kind (messages.Dt1 dlr more payload) = last (message_lines (messages.Dt1 dlr more payload))
by_kind (messages.Dt2 dlr sent received more payload) = last (message_lines (messages.Dt2 dlr sent received more payload))
by_kind (messages.Ak dlr received window) = last (message_lines (messages.Ak dlr received window))
by_kind (messages.Udt class to from payload) = last (message_lines (messages.Udt class to from payload))
by_kind (messages.Udts cause to from payload) = last (message_lines (messages.Udts cause to from payload))
by_kind (messages.Ed dlr payload) = last (message_lines (messages.Ed dlr payload))
by_kind (messages.Ea dlr) = refl
by_kind (messages.Rsr dlr slr cause) = refl
by_kind (messages.Rsc dlr slr) = refl
by_kind (messages.Err dlr cause) = refl
by_kind (messages.It dlr slr class sent received more window) = last (message_lines (messages.It dlr slr class sent received more window))
by_kind (messages.Xudt class counter to from payload params) = last (message_lines (messages.Xudt class counter to from payload params))
by_kind (messages.Xudts cause counter to from payload params) = last (message_lines (messages.Xudts cause counter to from payload params))
by_kind (messages.Ludt class counter to from payload params) = last (message_lines (messages.Ludt class counter to from payload params))
by_kind (messages.Ludts cause counter to from payload params) = last (message_lines (messages.Ludts cause counter to from payload params))
