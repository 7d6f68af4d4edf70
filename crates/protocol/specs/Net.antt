-- "The net over a whole history" (document 01). Bases and broadcasts are numbered from 1.
use Rattle.std.specs.Prelude.{ℕ, suc, ◌+◌, ◌-◌, Bool, true, false, not, List, [], ◌∷◌, ◌++◌, map, eqb, ltb, length, get_or}
use Rattle.lists.specs.Choice.{choose, and, or, first}
use Rattle.counting.specs.Sums.{bit, sum}
use Rattle.frame.specs.Encoding.{encode}
use Rattle.frame.specs.Reading.{kind_byte}
use Rattle.protocol.specs.declared.Base.{Base}
use Rattle.protocol.specs.Record.{final_list}
use Rattle.protocol.specs.Steps.{Answer, accepted, discarded, refused, Done, start, arrival, leader_of}
use Rattle.protocol.specs.Numbering.{link_to}

-- "The net's state is one record a base, each base's broadcasts, numbered from 1 in the order written, and the carries made."
pub record Net : Type 0 where
  pub base : ℕ → Base
  pub log : ℕ → List (List ℕ)
  -- whether a's k-th broadcast was carried to b: from, to, number
  pub carried : ℕ → ℕ → ℕ → Bool

-- "Each pair has one link": a link by its two bases
pub record Pair : Type 0 where
  pub one : ℕ
  pub other : ℕ

-- whether a pair joins a and b
unfoldable pub joins : Pair → ℕ → ℕ → Bool
joins p a b = or (and (eqb p.one a) (eqb p.other b)) (and (eqb p.one b) (eqb p.other a))

-- "Every other link is good."
unfoldable pub good : List Pair → ℕ → ℕ → Bool
good [] a b = true
good (p ∷ faulty) a b = and (not (joins p a b)) (good faulty a b)

-- "an event is one of these", each with the length of the output of its call
pub data Event : Type 0 where
  -- Start: a start at b
  starts : ℕ → ℕ → Event
  -- Carry: a's k-th broadcast, byte for byte as written, arrives at b
  carry : ℕ → ℕ → ℕ → ℕ → Event
  -- Forgery: any bytes, of any length, arrive at b on b's link to a
  forge : ℕ → ℕ → List ℕ → ℕ → Event

-- the base on whose record the event is a call
unfoldable pub at : Event → ℕ
at (starts b room) = b
at (carry a b k room) = b
at (forge a b bytes room) = b

-- a's k-th broadcast
unfoldable pub broadcast : Net → ℕ → ℕ → List ℕ
broadcast W a k = get_or (W.log a) (k - 1) []

-- "a call on b's record as the last call on b left it"
unfoldable pub call : Net → Event → Done
call W (starts b room) = start (W.base b) room
call W (carry a b k room) = arrival (W.base b) (link_to b a) (broadcast W a k) room
call W (forge a b bytes room) = arrival (W.base b) (link_to b a) bytes room

-- 16. A carry names a message not yet broadcast.
-- 17. A carry repeats one already made in that direction on a good link.
-- 18. A forgery is put on a good link.
unfoldable pub event_refusal : List Pair → Net → Event → ℕ
event_refusal faulty W (starts b room) = 0
event_refusal faulty W (carry a b k room) =
    choose (or (eqb k 0) (ltb (length (W.log a)) k)) 16
    (choose (and (good faulty a b) (W.carried a b k)) 17
    0)
event_refusal faulty W (forge a b bytes room) = choose (good faulty a b) 18 0

-- the number by which an event is turned down: "by 16 to 18 or by the base's call"; 0 for none
unfoldable pub call_refusal : Answer → ℕ
call_refusal accepted = 0
call_refusal discarded = 0
call_refusal (refused r) = r

unfoldable pub refusal : List Pair → Net → Event → ℕ
refusal faulty W e = first (event_refusal faulty W e) (call_refusal (call W e).answer)

-- a table with one entry replaced
unfoldable pub replaced : {A : Type 0} → ℕ → A → (ℕ → A) → ℕ → A
replaced x v f y = choose (eqb y x) v (f y)

-- "a carry joins the carries made"
unfoldable pub carried_after : Net → Event → ℕ → ℕ → ℕ → Bool
carried_after W (starts b room) x y j = W.carried x y j
carried_after W (carry a b k room) x y j = or (and (eqb x a) (and (eqb y b) (eqb j k))) (W.carried x y j)
carried_after W (forge a b bytes room) x y j = W.carried x y j

-- "Frames written join b's broadcasts in their order, and a carry joins the carries made."
unfoldable pub net_after : Net → Event → Net
net_after W e = let d = call W e in record {
  base = replaced (at e) d.base W.base;
  log = replaced (at e) (W.log (at e) ++ map encode d.says) W.log;
  carried = carried_after W e;
}

-- "An event that is turned down, by 16 to 18 or by the base's call, changes nothing"
unfoldable pub happens : List Pair → Net → Event → Net
happens faulty W e = choose (eqb (refusal faulty W e) 0) (net_after W e) W

-- a whole history
unfoldable pub run : List Pair → Net → List Event → Net
run faulty W [] = W
run faulty W (e ∷ es) = run faulty (happens faulty W e) es

-- ---- what is counted from a history
-- "A base is started by its first start or arrival that is not turned down."
unfoldable pub started : List Pair → Net → List Event → ℕ → Bool
started faulty W [] b = false
started faulty W (e ∷ es) b = or (and (eqb (at e) b) (eqb (refusal faulty W e) 0)) (started faulty (happens faulty W e) es b)

-- "It has stopped once it has broadcast a Correct-Final"
unfoldable pub says_correct : List (List ℕ) → Bool
says_correct [] = false
says_correct (frame ∷ log) = or (eqb (kind_byte frame) 3) (says_correct log)

unfoldable pub has_stopped : Net → ℕ → Bool
has_stopped W b = says_correct (W.log b)

-- "the number of pairs of a broadcast and a base at the other end of a good link from its
-- sender, with no carry of that broadcast to that base yet but refused ones"
unfoldable pub waiting_from : List Pair → Net → ℕ → ℕ → ℕ
waiting_from faulty W a b =
    choose (or (eqb a b) (not (good faulty a b))) 0 (sum (length (W.log a)) (λ i. bit (not (W.carried a b (suc i)))))

unfoldable pub waiting : ℕ → List Pair → Net → ℕ
waiting n faulty W = sum n (λ a. sum n (λ b. waiting_from faulty W (suc a) (suc b)))

-- "The leader that a stopped base names is the one that the leader rule takes from the final list in its own record"
unfoldable pub leader_named : Net → ℕ → ℕ
leader_named W b = leader_of (final_list (W.base b))
