-- "Around the thresholds" (document 01): each starred case as an arrival at a record, and what
-- is seen after it. The records are chosen so that the table also shuts out the slips that the
-- section names. The own identifier is 30; links 1, 2 and 3 go to the bases of 10, 20 and 40.
use Rattle.std.specs.Prelude.{ℕ, ◌-◌, Bool, true, false, List, [], ◌∷◌, ◌++◌, map, eqb, length, replicate}
use Rattle.limits.specs.Limits.{most_bases, most_links, list_room, output_room}
use Rattle.lists.specs.Choice.{and}
use Rattle.lists.specs.Lists.{same_list, pad_to}
use Rattle.frame.specs.Message.{Message, announce, verify, correct_final, verify_final, kind_of}
use Rattle.frame.specs.Encoding.{encode}
use Rattle.protocol.specs.declared.Link.{Link}
use Rattle.protocol.specs.declared.Base.{Base}
use Rattle.protocol.specs.Record.{tally_sum, suspects, list_tally, final_list}
use Rattle.protocol.specs.Sound.{empty_link}
use Rattle.protocol.specs.Steps.{Answer, accepted, discarded, refused, Done, arrival}

-- ---- records to begin with
-- a link with an Announce and Verifies
unfoldable pub heard : ℕ → List ℕ → Link
heard g verifies =
    record { announce = g; verifies = pad_to list_room verifies; list = pad_to most_bases []; verify_count = length verifies; held = 0 }

-- a link with a vector message
unfoldable pub link_holding : ℕ → List ℕ → Link
link_holding kind v = record { announce = 0; verifies = pad_to list_room []; list = pad_to most_bases v; verify_count = 0; held = kind }

-- a running base with these links
unfoldable pub running : ℕ → ℕ → List Link → Base
running n t links = record {
  n = n;
  t = t;
  state = 1;
  sent = 0;
  own = 30;
  final_list = pad_to most_bases [];
  links = links ++ replicate (most_links - length links) empty_link;
}

-- ---- a row: an arrival, and what is seen after it
pub record Seen : Type 0 where
  pub answer : Answer
  -- the kinds of the frames broadcast
  pub kinds : List ℕ
  pub state : ℕ
  -- the first n places of the final list
  pub final : List ℕ
  -- of the certified identifiers: the sum of their tallies, and the suspect pairs
  pub sum : ℕ
  pub suspects : ℕ

-- the tally of a list, before the arrival and after it
pub record ListTally : Type 0 where
  pub list : List ℕ
  pub before : ℕ
  pub after : ℕ

pub record Row : Type 0 where
  pub given : Base
  pub link : ℕ
  pub arrives : Message
  pub seen : Seen
  pub tally : ListTally

abbrev pub V4 : List ℕ
V4 = 10 ∷ 20 ∷ 30 ∷ 40 ∷ []

abbrev pub U4 : List ℕ
U4 = 10 ∷ 20 ∷ 30 ∷ 50 ∷ []

abbrev pub V6 : List ℕ
V6 = 10 ∷ 20 ∷ 30 ∷ 40 ∷ 50 ∷ 60 ∷ []

abbrev pub none4 : List ℕ
none4 = replicate 4 0

abbrev pub none6 : List ℕ
none6 = replicate 6 0

-- n = 4, t = 1: links 1 and 2 lack the Verify of their own announced identifier; link 3 holds these
abbrev pub lacking : List ℕ → Base
lacking verifies = running 4 1 (heard 10 (20 ∷ 30 ∷ 40 ∷ []) ∷ heard 20 (10 ∷ 30 ∷ 40 ∷ []) ∷ heard 40 verifies ∷ [])

unfoldable pub rows : List Row
rows =
    -- n = 4, t = 1, four certified: both Verifies of one pair missing: link 1 lacks 20, link 2 lacks 10
    record {
      given = running 4 1 (heard 10 (10 ∷ 30 ∷ 40 ∷ []) ∷ heard 20 (20 ∷ 30 ∷ 40 ∷ []) ∷ heard 40 (10 ∷ 20 ∷ 40 ∷ []) ∷ []);
      link = 3;
      arrives = verify 30;
      seen = record { answer = accepted; kinds = 3 ∷ []; state = 2; final = V4; sum = 14; suspects = 1 };
      tally = record { list = V4; before = 0; after = 0 };
    }
    -- one Verify missing in each of two pairs, one of them with the own identifier: link 1 lacks 40, link 2 lacks 30
    ∷ record {
      given = running 4 1 (heard 10 (10 ∷ 20 ∷ 30 ∷ []) ∷ heard 20 (10 ∷ 20 ∷ 40 ∷ []) ∷ heard 40 (10 ∷ 20 ∷ 40 ∷ []) ∷ []);
      link = 3;
      arrives = verify 30;
      seen = record { answer = accepted; kinds = []; state = 1; final = none4; sum = 14; suspects = 2 };
      tally = record { list = V4; before = 0; after = 0 };
    }
    -- three links lack the Verify of their own announced identifier
    ∷ record {
      given = lacking (10 ∷ 20 ∷ []);
      link = 3;
      arrives = verify 30;
      seen = record { answer = accepted; kinds = []; state = 1; final = none4; sum = 13; suspects = 0 };
      tally = record { list = V4; before = 0; after = 0 };
    }
    -- the same Verify from that link once more: counted twice, the sum would be 14
    ∷ record {
      given = lacking (10 ∷ 20 ∷ 30 ∷ []);
      link = 3;
      arrives = verify 30;
      seen = record { answer = discarded; kinds = []; state = 1; final = none4; sum = 13; suspects = 0 };
      tally = record { list = V4; before = 0; after = 0 };
    }
    -- two Correct-Final V: secondary, and the vote before it
    ∷ record {
      given = running 4 1 (link_holding 3 V4 ∷ []);
      link = 2;
      arrives = correct_final V4;
      seen = record { answer = accepted; kinds = 4 ∷ 3 ∷ []; state = 3; final = V4; sum = 1; suspects = 0 };
      tally = record { list = V4; before = 1; after = 2 };
    }
    -- one and a Verify-Final V: runs on
    ∷ record {
      given = running 4 1 (link_holding 3 V4 ∷ []);
      link = 2;
      arrives = verify_final V4;
      seen = record { answer = accepted; kinds = []; state = 1; final = none4; sum = 1; suspects = 0 };
      tally = record { list = V4; before = 1; after = 2 };
    }
    -- n = 6, t = 2: two Correct-Final V run on, though link 2 gave a Verify-Final V before
    ∷ record {
      given = running 6 2 (link_holding 3 V6 ∷ link_holding 4 V6 ∷ []);
      link = 2;
      arrives = correct_final V6;
      seen = record { answer = accepted; kinds = 4 ∷ []; state = 1; final = none6; sum = 1; suspects = 0 };
      tally = record { list = V6; before = 2; after = 2 };
    }
    -- a Verify-Final V more makes it secondary
    ∷ record {
      given = running 6 2 (link_holding 3 V6 ∷ link_holding 3 V6 ∷ []);
      link = 3;
      arrives = verify_final V6;
      seen = record { answer = accepted; kinds = 3 ∷ []; state = 3; final = V6; sum = 1; suspects = 0 };
      tally = record { list = V6; before = 2; after = 3 };
    }
    -- own Announce arriving: discarded
    ∷ record {
      given = running 4 1 [];
      link = 1;
      arrives = announce 30;
      seen = record { answer = discarded; kinds = []; state = 1; final = none4; sum = 1; suspects = 0 };
      tally = record { list = V4; before = 0; after = 0 };
    }
    -- list at n + 1: discarded
    ∷ record {
      given = running 4 1 (heard 10 (1 ∷ 2 ∷ 3 ∷ 4 ∷ []) ∷ []);
      link = 1;
      arrives = verify 5;
      seen = record { answer = discarded; kinds = []; state = 1; final = none4; sum = 2; suspects = 1 };
      tally = record { list = V4; before = 0; after = 0 };
    }
    -- list at n: accepted
    ∷ record {
      given = running 4 1 (heard 10 (1 ∷ 2 ∷ 3 ∷ []) ∷ []);
      link = 1;
      arrives = verify 5;
      seen = record { answer = accepted; kinds = []; state = 1; final = none4; sum = 2; suspects = 1 };
      tally = record { list = V4; before = 0; after = 0 };
    }
    -- Correct-Final V over Verify-Final U: U's tally falls
    ∷ record {
      given = running 4 1 (link_holding 4 U4 ∷ []);
      link = 1;
      arrives = correct_final V4;
      seen = record { answer = accepted; kinds = []; state = 1; final = none4; sum = 1; suspects = 0 };
      tally = record { list = U4; before = 1; after = 0 };
    }
    ∷ []

-- ---- whether a row holds
unfoldable pub same_answer : Answer → Answer → Bool
same_answer accepted accepted = true
same_answer accepted discarded = false
same_answer accepted (refused r) = false
same_answer discarded accepted = false
same_answer discarded discarded = true
same_answer discarded (refused r) = false
same_answer (refused r) accepted = false
same_answer (refused r) discarded = false
same_answer (refused r) (refused s) = eqb r s

unfoldable pub done : Row → Done
done row = arrival row.given row.link (encode row.arrives) output_room

unfoldable pub seen_after : Seen → Done → Bool
seen_after seen d =
    and (same_answer d.answer seen.answer)
    (and (same_list (map kind_of d.says) seen.kinds)
    (and (eqb d.base.state seen.state)
    (and (same_list (final_list d.base) seen.final)
    (and (eqb (tally_sum d.base) seen.sum)
    (eqb (suspects d.base) seen.suspects)))))

unfoldable pub tallied : ListTally → Base → Base → Bool
tallied tally b c = and (eqb (list_tally b tally.list) tally.before) (eqb (list_tally c tally.list) tally.after)

unfoldable pub row_holds : Row → Bool
row_holds row = and (seen_after row.seen (done row)) (tallied row.tally row.given (done row).base)

unfoldable pub all_hold : List Row → Bool
all_hold [] = true
all_hold (row ∷ rest) = and (row_holds row) (all_hold rest)
