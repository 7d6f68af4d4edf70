-- The definitions that are computed where a case is worked out to its end: the rows of the starred table, and the histories of
-- the crate `histories`. Whoever unfolds `computed` unfolds all of them.
use Rattle.limits.specs.Refusals.{net_refusal, size_refusal, own_refusal}
use Rattle.lists.specs.Choice.{choose, and, or, first}
use Rattle.lists.specs.Lists.{nonzero, ascending, member, distinct, zeros, same_list, insert, sort, sum_over, pad_to}
use Rattle.counting.specs.Sums.{bit, sum, pairs, all}
use Rattle.frame.specs.Message.{kind_of, ids_of, holds_one, holds_all, known, expected}
use Rattle.frame.specs.Encoding.{two_bytes, four_bytes, body, trailer, frame_of, encode}
use Rattle.frame.specs.Reading.{from_end, kind_byte, count_byte, back_distance, body_start, body_of, identifier, identifiers, ids_in}
use Rattle.frame.specs.Reading.{length_refusal, kind_refusal, distance_refusal, trailer_refusal}
use Rattle.frame.specs.Reading.{list_refusal, burst_refusal, message, message_of}
use Rattle.protocol.specs.Links.{announces, verifies_of, holds_verify, used, full}
use Rattle.protocol.specs.Links.{holds_vector, holds_correct, holds_verify_final, holds_list}
use Rattle.protocol.specs.Record.{link_at, link_count, links, announced, certified, tally, tally_sum}
use Rattle.protocol.specs.Record.{suspect_pair, suspect_own, suspects, list_tally, correct_count, final_list}
use Rattle.protocol.specs.Sound.{list_sound, verifies_sound, held_sound, link_sound, link_empty, place_sound, links_sound, links_empty}
use Rattle.protocol.specs.Sound.{idle, stopped, final_sound, idle_sound, announces_sound, sound, setting_refusal, record_refusal, idle_base}
use Rattle.protocol.specs.Steps.{refuses, discards, accepts}
use Rattle.protocol.specs.Steps.{with_link, with_sent, with_state, with_final, with_announce, with_verify, with_vector}
use Rattle.protocol.specs.Steps.{prime_holds, secondary_holds, stops, prime_check, secondary_check}
use Rattle.protocol.specs.Steps.{on_announce, on_verify, votes, vote, on_correct_final, on_verify_final, on_message}
use Rattle.protocol.specs.Steps.{begins, start_step, and_then, arrival_step, link_refusal}
use Rattle.protocol.specs.Steps.{output_refusal, unless, start, arrival_refusal, arrival}
use Rattle.protocol.specs.Numbering.{link_to}
use Rattle.protocol.specs.Net.{joins, good, at, broadcast, call, event_refusal}
use Rattle.protocol.specs.Net.{call_refusal, refusal, replaced, carried_after, net_after, happens}
use Rattle.protocol.specs.Net.{run, started, says_correct, has_stopped, waiting_from, waiting}

unfoldable pub computed : Unit {0}
unfolding
    net_refusal size_refusal own_refusal choose and or first
    nonzero ascending member distinct zeros same_list insert sort sum_over pad_to bit sum pairs all
    kind_of ids_of holds_one holds_all known expected two_bytes four_bytes body trailer frame_of encode
    from_end kind_byte count_byte back_distance body_start body_of identifier identifiers ids_in
    length_refusal kind_refusal distance_refusal trailer_refusal list_refusal burst_refusal message message_of
    announces verifies_of holds_verify used full holds_vector holds_correct holds_verify_final holds_list
    link_at link_count links announced certified tally tally_sum suspect_pair suspect_own suspects list_tally correct_count final_list
    list_sound verifies_sound held_sound link_sound link_empty place_sound links_sound links_empty
    idle stopped final_sound idle_sound announces_sound sound setting_refusal record_refusal idle_base
    refuses discards accepts with_link with_sent with_state with_final with_announce with_verify with_vector
    prime_holds secondary_holds stops prime_check secondary_check
    on_announce on_verify votes vote on_correct_final on_verify_final on_message
    begins start_step and_then arrival_step link_refusal output_refusal unless start arrival_refusal arrival
    link_to joins good at broadcast call event_refusal call_refusal refusal replaced carried_after net_after happens
    run started says_correct has_stopped waiting_from waiting
computed = tt
