-- Worked captures, typed from the formats and computed on the definitions. The plan has relay a at 1-0-2.
use Rattle.std.specs.Prelude.{◌≡◌, [], ◌∷◌, codes}
use Rattle.std.proofs.Common.{refl}
use Rattle.std.specs.Fmt.{digits}
use Rattle.hex.specs.Hex.{encode_with}
use Rattle.capture_file.specs.Told.{told_from}
use Rattle.capture_file.specs.Units.{unit}
use Rattle.packet_layers.specs.Layers.{found_in, sctp, chunks_from, chunk_size, chunk_of, whole_mtp3, mtp3, sccp}
use Rattle.packet_layers.specs.Layers.{m2pa, is_m2pa}
use Rattle.user_messages.specs.Chunks.{goes_on}
use Rattle.user_messages.specs.Gathering.{took, first_copy, run_of, up_to, after}
use Rattle.m3ua_data.specs.Reading.{reading, params_from}
use Rattle.m3ua_trace.specs.Imported.{message_line}
use Rattle.plan_model.specs.Limits.{standard}
use Rattle.plan_model.specs.Network.{Network}
use Rattle.sccp_base.specs.Names.{name_of}
use Rattle.sccp_report.specs.Values.{point_code_text}
use Rattle.capture_trace.specs.Words.{skipped, head, chunk_head, fault_words, octet_line, named_count, end_line}
use Rattle.capture_trace.specs.Items.{message_item, imported_item, bare_item, carried_item, is_for_m3ua, is_read, is_other_m3ua, m3ua_item}
use Rattle.capture_trace.specs.Items.{user_item, given_item, chunk_step, found_step}
use Rattle.capture_trace.specs.Traced.{all_found, of_packet, last_lines, lines_after, lines_of_capture}

abbrev one_relay : Network
one_relay = record {
  limits = standard;
  nodes = record { name = codes "a"; pc = 2050; subsystems = []; concerned = []; table = [] } ∷ [];
  covers = [];
}

-- a message of MTP3 in a pcap file
labelled : lines_of_capture one_relay
    (212 ∷ 195 ∷ 178 ∷ 161 ∷ 2 ∷ 0 ∷ 4 ∷ 0 ∷ 0 ∷ 0 ∷ 0 ∷ 0 ∷ 0 ∷ 0 ∷ 0 ∷ 0 ∷ 0 ∷ 0 ∷ 4 ∷ 0 ∷ 141 ∷ 0 ∷ 0 ∷ 0 ∷ 0 ∷ 241 ∷ 83 ∷ 101 ∷
    0 ∷ 0 ∷ 0 ∷ 0 ∷ 18 ∷ 0 ∷ 0 ∷ 0 ∷ 18 ∷ 0 ∷ 0 ∷ 0 ∷ 131 ∷ 2 ∷ 72 ∷ 0 ∷ 82 ∷ 9 ∷ 0 ∷ 3 ∷ 5 ∷ 7 ∷ 2 ∷ 66 ∷ 6 ∷ 2 ∷ 66 ∷ 8 ∷ 1 ∷
    170 ∷ [])
    ≡ codes "msg a 1-0-1 090003050702420602420801AA"
    ∷ codes "# end packets 1 messages 1 left 0 repeated 0 others 0 faults 0" ∷ []
unfolding told_from unit found_in lines_after all_found found_step carried_item imported_item message_item message_line
    point_code_text name_of of_packet last_lines end_line named_count skipped head chunk_head octet_line digits encode_with
    whole_mtp3 mtp3
labelled = refl

-- the same twice, without the last four octets
cut : lines_of_capture one_relay
    (212 ∷ 195 ∷ 178 ∷ 161 ∷ 2 ∷ 0 ∷ 4 ∷ 0 ∷ 0 ∷ 0 ∷ 0 ∷ 0 ∷ 0 ∷ 0 ∷ 0 ∷ 0 ∷ 0 ∷ 0 ∷ 4 ∷ 0 ∷ 141 ∷ 0 ∷ 0 ∷ 0 ∷ 0 ∷ 241 ∷ 83 ∷ 101 ∷
    0 ∷ 0 ∷ 0 ∷ 0 ∷ 18 ∷ 0 ∷ 0 ∷ 0 ∷ 18 ∷ 0 ∷ 0 ∷ 0 ∷ 131 ∷ 2 ∷ 72 ∷ 0 ∷ 82 ∷ 9 ∷ 0 ∷ 3 ∷ 5 ∷ 7 ∷ 2 ∷ 66 ∷ 6 ∷ 2 ∷ 66 ∷ 8 ∷ 1 ∷
    170 ∷ 0 ∷ 241 ∷ 83 ∷ 101 ∷ 0 ∷ 0 ∷ 0 ∷ 0 ∷ 18 ∷ 0 ∷ 0 ∷ 0 ∷ 18 ∷ 0 ∷ 0 ∷ 0 ∷ 131 ∷ 2 ∷ 72 ∷ 0 ∷ 82 ∷ 9 ∷ 0 ∷ 3 ∷ 5 ∷ 7 ∷ 2 ∷
    66 ∷ 6 ∷ 2 ∷ [])
    ≡ codes "msg a 1-0-1 090003050702420602420801AA"
    ∷ codes "# octet 58 cut"
    ∷ codes "# end packets 1 messages 1 left 0 repeated 0 others 0 faults 1" ∷ []
unfolding told_from unit found_in lines_after all_found found_step carried_item imported_item message_item message_line
    point_code_text name_of of_packet last_lines end_line named_count skipped head chunk_head octet_line digits encode_with
    whole_mtp3 mtp3
cut = refl

-- a packet with a SACK, a DATA chunk with the message and one with a message for service 5, and a packet with the first DATA
-- chunk once more
repeated : lines_of_capture one_relay
    (212 ∷ 195 ∷ 178 ∷ 161 ∷ 2 ∷ 0 ∷ 4 ∷ 0 ∷ 0 ∷ 0 ∷ 0 ∷ 0 ∷ 0 ∷ 0 ∷ 0 ∷ 0 ∷ 0 ∷ 0 ∷ 4 ∷ 0 ∷ 248 ∷ 0 ∷ 0 ∷ 0 ∷ 0 ∷ 241 ∷ 83 ∷ 101 ∷
    0 ∷ 0 ∷ 0 ∷ 0 ∷ 128 ∷ 0 ∷ 0 ∷ 0 ∷ 128 ∷ 0 ∷ 0 ∷ 0 ∷ 11 ∷ 89 ∷ 11 ∷ 89 ∷ 17 ∷ 34 ∷ 51 ∷ 68 ∷ 50 ∷ 90 ∷ 5 ∷ 237 ∷ 3 ∷ 0 ∷ 0 ∷
    16 ∷ 0 ∷ 0 ∷ 0 ∷ 9 ∷ 0 ∷ 0 ∷ 255 ∷ 255 ∷ 0 ∷ 0 ∷ 0 ∷ 0 ∷ 0 ∷ 3 ∷ 0 ∷ 56 ∷ 0 ∷ 0 ∷ 0 ∷ 5 ∷ 0 ∷ 0 ∷ 0 ∷ 0 ∷ 0 ∷ 0 ∷ 0 ∷ 3 ∷ 1 ∷
    0 ∷ 1 ∷ 1 ∷ 0 ∷ 0 ∷ 0 ∷ 40 ∷ 2 ∷ 16 ∷ 0 ∷ 29 ∷ 0 ∷ 0 ∷ 8 ∷ 1 ∷ 0 ∷ 0 ∷ 8 ∷ 2 ∷ 3 ∷ 2 ∷ 0 ∷ 5 ∷ 9 ∷ 0 ∷ 3 ∷ 5 ∷ 7 ∷ 2 ∷ 66 ∷ 6 ∷
    2 ∷ 66 ∷ 8 ∷ 1 ∷ 170 ∷ 0 ∷ 0 ∷ 0 ∷ 0 ∷ 3 ∷ 0 ∷ 44 ∷ 0 ∷ 0 ∷ 0 ∷ 6 ∷ 0 ∷ 0 ∷ 0 ∷ 0 ∷ 0 ∷ 0 ∷ 0 ∷ 3 ∷ 1 ∷ 0 ∷ 1 ∷ 1 ∷ 0 ∷ 0 ∷ 0 ∷
    28 ∷ 2 ∷ 16 ∷ 0 ∷ 19 ∷ 0 ∷ 0 ∷ 8 ∷ 1 ∷ 0 ∷ 0 ∷ 8 ∷ 2 ∷ 5 ∷ 2 ∷ 0 ∷ 5 ∷ 1 ∷ 0 ∷ 5 ∷ 0 ∷ 1 ∷ 241 ∷ 83 ∷ 101 ∷ 232 ∷ 3 ∷ 0 ∷ 0 ∷
    68 ∷ 0 ∷ 0 ∷ 0 ∷ 68 ∷ 0 ∷ 0 ∷ 0 ∷ 11 ∷ 89 ∷ 11 ∷ 89 ∷ 17 ∷ 34 ∷ 51 ∷ 68 ∷ 141 ∷ 117 ∷ 183 ∷ 206 ∷ 0 ∷ 3 ∷ 0 ∷ 56 ∷ 0 ∷ 0 ∷ 0 ∷
    5 ∷ 0 ∷ 0 ∷ 0 ∷ 0 ∷ 0 ∷ 0 ∷ 0 ∷ 3 ∷ 1 ∷ 0 ∷ 1 ∷ 1 ∷ 0 ∷ 0 ∷ 0 ∷ 40 ∷ 2 ∷ 16 ∷ 0 ∷ 29 ∷ 0 ∷ 0 ∷ 8 ∷ 1 ∷ 0 ∷ 0 ∷ 8 ∷ 2 ∷ 3 ∷ 2 ∷
    0 ∷ 5 ∷ 9 ∷ 0 ∷ 3 ∷ 5 ∷ 7 ∷ 2 ∷ 66 ∷ 6 ∷ 2 ∷ 66 ∷ 8 ∷ 1 ∷ 170 ∷ 0 ∷ 0 ∷ 0 ∷ [])
    ≡ codes "msg a 1-0-1 090003050702420602420801AA"
    ∷ codes "# packet 1 chunk 3 service 5"
    ∷ codes "# end packets 2 messages 1 left 1 repeated 1 others 1 faults 0" ∷ []
unfolding told_from unit found_in lines_after all_found found_step carried_item imported_item message_item message_line
    point_code_text name_of of_packet last_lines end_line named_count skipped head chunk_head octet_line digits encode_with sctp
    chunks_from chunk_size chunk_of chunk_step is_read is_for_m3ua given_item user_item m3ua_item is_other_m3ua reading params_from
    took first_copy run_of up_to after goes_on
repeated = refl

-- one user message in two chunks, whose numbers are FFFFFFFF and 0
in_two_chunks : lines_of_capture one_relay
    (212 ∷ 195 ∷ 178 ∷ 161 ∷ 2 ∷ 0 ∷ 4 ∷ 0 ∷ 0 ∷ 0 ∷ 0 ∷ 0 ∷ 0 ∷ 0 ∷ 0 ∷ 0 ∷ 0 ∷ 0 ∷ 4 ∷ 0 ∷ 248 ∷ 0 ∷ 0 ∷ 0 ∷ 0 ∷ 241 ∷ 83 ∷ 101 ∷
    0 ∷ 0 ∷ 0 ∷ 0 ∷ 52 ∷ 0 ∷ 0 ∷ 0 ∷ 52 ∷ 0 ∷ 0 ∷ 0 ∷ 11 ∷ 89 ∷ 11 ∷ 89 ∷ 17 ∷ 34 ∷ 51 ∷ 68 ∷ 51 ∷ 102 ∷ 20 ∷ 253 ∷ 0 ∷ 2 ∷ 0 ∷
    40 ∷ 255 ∷ 255 ∷ 255 ∷ 255 ∷ 0 ∷ 0 ∷ 0 ∷ 0 ∷ 0 ∷ 0 ∷ 0 ∷ 3 ∷ 1 ∷ 0 ∷ 1 ∷ 1 ∷ 0 ∷ 0 ∷ 0 ∷ 40 ∷ 2 ∷ 16 ∷ 0 ∷ 29 ∷ 0 ∷ 0 ∷ 8 ∷ 1 ∷
    0 ∷ 0 ∷ 8 ∷ 2 ∷ 3 ∷ 2 ∷ 0 ∷ 5 ∷ 1 ∷ 241 ∷ 83 ∷ 101 ∷ 232 ∷ 3 ∷ 0 ∷ 0 ∷ 44 ∷ 0 ∷ 0 ∷ 0 ∷ 44 ∷ 0 ∷ 0 ∷ 0 ∷ 11 ∷ 89 ∷ 11 ∷ 89 ∷
    17 ∷ 34 ∷ 51 ∷ 68 ∷ 234 ∷ 111 ∷ 231 ∷ 144 ∷ 0 ∷ 1 ∷ 0 ∷ 32 ∷ 0 ∷ 0 ∷ 0 ∷ 0 ∷ 0 ∷ 0 ∷ 0 ∷ 0 ∷ 0 ∷ 0 ∷ 0 ∷ 3 ∷ 9 ∷ 0 ∷ 3 ∷ 5 ∷
    7 ∷ 2 ∷ 66 ∷ 6 ∷ 2 ∷ 66 ∷ 8 ∷ 1 ∷ 170 ∷ 0 ∷ 0 ∷ 0 ∷ [])
    ≡ codes "msg a 1-0-1 090003050702420602420801AA"
    ∷ codes "# end packets 2 messages 1 left 0 repeated 0 others 0 faults 0" ∷ []
unfolding told_from unit found_in lines_after all_found found_step carried_item imported_item message_item message_line
    point_code_text name_of of_packet last_lines end_line named_count skipped head chunk_head octet_line digits encode_with sctp
    chunks_from chunk_size chunk_of chunk_step is_read is_for_m3ua given_item user_item m3ua_item is_other_m3ua reading params_from
    took first_copy run_of up_to after goes_on
in_two_chunks = refl

-- messages of SCCP without point codes: one of two octets, and none
bare : lines_of_capture one_relay
    (212 ∷ 195 ∷ 178 ∷ 161 ∷ 2 ∷ 0 ∷ 4 ∷ 0 ∷ 0 ∷ 0 ∷ 0 ∷ 0 ∷ 0 ∷ 0 ∷ 0 ∷ 0 ∷ 0 ∷ 0 ∷ 4 ∷ 0 ∷ 142 ∷ 0 ∷ 0 ∷ 0 ∷ 0 ∷ 241 ∷ 83 ∷ 101 ∷
    0 ∷ 0 ∷ 0 ∷ 0 ∷ 2 ∷ 0 ∷ 0 ∷ 0 ∷ 2 ∷ 0 ∷ 0 ∷ 0 ∷ 9 ∷ 1 ∷ 0 ∷ 241 ∷ 83 ∷ 101 ∷ 0 ∷ 0 ∷ 0 ∷ 0 ∷ 0 ∷ 0 ∷ 0 ∷ 0 ∷ 0 ∷ 0 ∷ 0 ∷ 0 ∷ [])
    ≡ codes "# packet 1 sccp 0901"
    ∷ codes "# packet 2 empty"
    ∷ codes "# end packets 2 messages 0 left 2 repeated 0 others 0 faults 0" ∷ []
unfolding told_from unit found_in lines_after all_found found_step carried_item imported_item message_item message_line
    point_code_text name_of of_packet last_lines end_line named_count skipped head chunk_head octet_line digits encode_with sccp
    bare_item
bare = refl

-- a link that is not read
unknown_link : lines_of_capture one_relay
    (212 ∷ 195 ∷ 178 ∷ 161 ∷ 2 ∷ 0 ∷ 4 ∷ 0 ∷ 0 ∷ 0 ∷ 0 ∷ 0 ∷ 0 ∷ 0 ∷ 0 ∷ 0 ∷ 0 ∷ 0 ∷ 4 ∷ 0 ∷ 147 ∷ 0 ∷ 0 ∷ 0 ∷ 0 ∷ 241 ∷ 83 ∷ 101 ∷
    0 ∷ 0 ∷ 0 ∷ 0 ∷ 1 ∷ 0 ∷ 0 ∷ 0 ∷ 1 ∷ 0 ∷ 0 ∷ 0 ∷ 0 ∷ [])
    ≡ codes "# packet 1 link 147"
    ∷ codes "# end packets 1 messages 0 left 0 repeated 0 others 0 faults 1" ∷ []
unfolding told_from unit found_in lines_after all_found found_step carried_item imported_item message_item message_line
    point_code_text name_of of_packet last_lines end_line named_count skipped head chunk_head octet_line digits encode_with
    fault_words
unknown_link = refl

-- a first fragment without the others, and a chunk that was cut
alone : lines_of_capture one_relay
    (212 ∷ 195 ∷ 178 ∷ 161 ∷ 2 ∷ 0 ∷ 4 ∷ 0 ∷ 0 ∷ 0 ∷ 0 ∷ 0 ∷ 0 ∷ 0 ∷ 0 ∷ 0 ∷ 0 ∷ 0 ∷ 4 ∷ 0 ∷ 248 ∷ 0 ∷ 0 ∷ 0 ∷ 0 ∷ 241 ∷ 83 ∷ 101 ∷
    0 ∷ 0 ∷ 0 ∷ 0 ∷ 36 ∷ 0 ∷ 0 ∷ 0 ∷ 36 ∷ 0 ∷ 0 ∷ 0 ∷ 11 ∷ 89 ∷ 11 ∷ 89 ∷ 17 ∷ 34 ∷ 51 ∷ 68 ∷ 0 ∷ 0 ∷ 0 ∷ 0 ∷ 0 ∷ 2 ∷ 0 ∷ 20 ∷
    255 ∷ 255 ∷ 255 ∷ 255 ∷ 0 ∷ 0 ∷ 0 ∷ 0 ∷ 0 ∷ 0 ∷ 0 ∷ 3 ∷ 1 ∷ 0 ∷ 1 ∷ 1 ∷ 0 ∷ 3 ∷ 0 ∷ 64 ∷ [])
    ≡ codes "# packet 1 chunk 2 short"
    ∷ codes "# packet 1 chunk 1 alone"
    ∷ codes "# end packets 1 messages 0 left 0 repeated 0 others 0 faults 2" ∷ []
unfolding told_from unit found_in lines_after all_found found_step carried_item imported_item message_item message_line
    point_code_text name_of of_packet last_lines end_line named_count skipped head chunk_head octet_line digits encode_with sctp
    chunks_from chunk_size chunk_of chunk_step is_read is_for_m3ua given_item user_item m3ua_item is_other_m3ua reading params_from
    took first_copy run_of up_to after goes_on
alone = refl

-- a message of M2PA, in one chunk of payload protocol 5
of_m2pa : lines_of_capture one_relay
    (212 ∷ 195 ∷ 178 ∷ 161 ∷ 2 ∷ 0 ∷ 4 ∷ 0 ∷ 0 ∷ 0 ∷ 0 ∷ 0 ∷ 0 ∷ 0 ∷ 0 ∷ 0 ∷ 0 ∷ 0 ∷ 4 ∷ 0 ∷ 248 ∷ 0 ∷ 0 ∷ 0 ∷ 0 ∷ 241 ∷ 83 ∷ 101 ∷
    0 ∷ 0 ∷ 0 ∷ 0 ∷ 64 ∷ 0 ∷ 0 ∷ 0 ∷ 64 ∷ 0 ∷ 0 ∷ 0 ∷ 13 ∷ 237 ∷ 13 ∷ 237 ∷ 17 ∷ 34 ∷ 51 ∷ 68 ∷ 0 ∷ 0 ∷ 0 ∷ 0 ∷ 0 ∷ 3 ∷ 0 ∷ 51 ∷
    0 ∷ 0 ∷ 0 ∷ 1 ∷ 0 ∷ 0 ∷ 0 ∷ 0 ∷ 0 ∷ 0 ∷ 0 ∷ 5 ∷ 1 ∷ 0 ∷ 11 ∷ 1 ∷ 0 ∷ 0 ∷ 0 ∷ 35 ∷ 0 ∷ 0 ∷ 0 ∷ 1 ∷ 0 ∷ 0 ∷ 0 ∷ 1 ∷ 0 ∷ 131 ∷ 2 ∷
    72 ∷ 0 ∷ 82 ∷ 9 ∷ 0 ∷ 3 ∷ 5 ∷ 7 ∷ 2 ∷ 66 ∷ 6 ∷ 2 ∷ 66 ∷ 8 ∷ 1 ∷ 170 ∷ 0 ∷ [])
    ≡ codes "msg a 1-0-1 090003050702420602420801AA"
    ∷ codes "# end packets 1 messages 1 left 0 repeated 0 others 0 faults 0" ∷ []
unfolding told_from unit found_in lines_after all_found found_step carried_item imported_item message_item message_line
    point_code_text name_of of_packet last_lines end_line named_count skipped head chunk_head octet_line digits encode_with sctp
    chunks_from chunk_size chunk_of chunk_step is_read is_for_m3ua given_item user_item m3ua_item is_other_m3ua reading params_from
    took first_copy run_of up_to after goes_on m2pa is_m2pa mtp3
of_m2pa = refl
