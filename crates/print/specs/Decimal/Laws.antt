-- Laws of decimal digits: one digit at a time, from the last, and how many there are.
use Rattle.std.specs.Prelude.{ℕ, zero, suc, ◌+◌, ◌-◌, ◌/◌, ◌%◌, ◌^◌, ◌≤◌, ◌<◌, ◌≡◌, List, [], ◌∷◌, ◌++◌, ltb, length, set, drop}
use Rattle.std.proofs.Common.{sym, ap, ◌∙◌, append_assoc, append-nil, pow-suc, arith}
use Rattle.std.proofs.Common.{lt-ltb, le-ltb, length-append, length-set, drop_of_length-le, drop-cons, drop-set-lt, get_or-set_same}
use Rattle.lists.specs.Choice.Laws.{choose_yes, choose_no, choose_ind}
use Rattle.print.specs.Decimal.{most_digits, last_digits, decimal_text, field_text}

-- the array from a place on, with one byte stored there
store_front : (bytes : List ℕ) (i x : ℕ) → i < length bytes → drop i (set bytes i x) ≡ x ∷ drop (suc i) bytes
store_front bytes i x h =
    drop-cons (set bytes i x) i 0 (omega (arith, length-set bytes i x))
    ∙ ap (λ (y : ℕ). y ∷ drop (suc i) (set bytes i x)) (get_or-set_same bytes i x 0 h)
    ∙ ap (λ (l : List ℕ). x ∷ l) (drop-set-lt (suc i) bytes i x (omega arith))

pub digits_begin : (v : ℕ) (bytes : List ℕ) → length bytes ≤ most_digits
    → decimal_text v ≡ last_digits most_digits v ++ drop most_digits bytes
unfolding decimal_text
digits_begin v bytes h =
    sym (ap (λ (l : List ℕ). last_digits most_digits v ++ l) (drop_of_length-le bytes h) ∙ append-nil (last_digits most_digits v))

pub digits_last : (i rest d : ℕ) (bytes text : List ℕ) → 0 < i → i ≤ length bytes → rest < 10 → d ≡ 48 + rest % 10
    → text ≡ last_digits i rest ++ drop i bytes → drop (i - 1) (set bytes (i - 1) d) ≡ text
unfolding last_digits
digits_last zero rest d bytes text some h less e p = absurd (omega arith)
digits_last (suc i) rest d bytes text some h less e p =
    let one : suc i - 1 ≡ i = omega arith in
    let same : d ≡ 48 + rest = omega arith in
    ap (λ (k : ℕ). drop k (set bytes k d)) one ∙ store_front bytes i d h ∙ ap (λ (x : ℕ). x ∷ drop (suc i) bytes) same
    ∙ sym (p ∙ ap (λ (l : List ℕ). l ++ drop (suc i) bytes) (choose_yes _ _ (lt-ltb rest 10 less)))

pub decimal_more : (i rest d : ℕ) (bytes text : List ℕ) → 0 < i → i ≤ length bytes → 10 ≤ rest → d ≡ 48 + rest % 10
    → text ≡ last_digits i rest ++ drop i bytes → text ≡ last_digits (i - 1) (rest / 10) ++ drop (i - 1) (set bytes (i - 1) d)
unfolding last_digits
decimal_more zero rest d bytes text some h more e p = absurd (omega arith)
decimal_more (suc i) rest d bytes text some h more e p =
    let one : suc i - 1 ≡ i = omega arith in
    p ∙ ap (λ (l : List ℕ). l ++ drop (suc i) bytes) (choose_no _ _ (le-ltb rest 10 more))
    ∙ append_assoc (last_digits i (rest / 10)) ((48 + rest % 10) ∷ []) (drop (suc i) bytes)
    ∙ ap (λ (x : ℕ). last_digits i (rest / 10) ++ (x ∷ drop (suc i) bytes)) (sym e)
    ∙ ap (λ (l : List ℕ). last_digits i (rest / 10) ++ l) (sym (store_front bytes i d h))
    ∙ ap (λ (k : ℕ). last_digits k (rest / 10) ++ drop k (set bytes k d)) (sym one)

pub digits_all : (i rest : ℕ) (bytes text : List ℕ) → i ≤ 0 → text ≡ last_digits i rest ++ drop i bytes → drop i bytes ≡ text
unfolding last_digits
digits_all zero rest bytes text h p = sym p
digits_all (suc i) rest bytes text h p = absurd (omega arith)

-- a number below 10 to the k has at most k digits
few_last : (m k v : ℕ) → v < 10 ^ suc k → length (last_digits m v) ≤ suc k
unfolding last_digits
few_last zero k v h = omega arith
few_last (suc m) zero v h =
    omega (arith, ap length (choose_yes ((48 + v) ∷ []) (last_digits m (v / 10) ++ ((48 + v % 10) ∷ [])) (lt-ltb v 10 h)))
few_last (suc m) (suc k) v h =
    let less : v / 10 < 10 ^ suc k = omega (arith, pow-suc 10 (suc k)) in
    choose_ind (λ (l : List ℕ). length l ≤ suc (suc k)) (ltb v 10) (λ _. omega arith)
    (λ _. omega (arith, length-append (last_digits m (v / 10)) ((48 + v % 10) ∷ []), few_last m k (v / 10) less))

few_digits : (k v : ℕ) → 1 ≤ k → v < 10 ^ k → length (decimal_text v) ≤ k
unfolding decimal_text
few_digits zero v some h = absurd (omega arith)
few_digits (suc k) v some h = few_last most_digits k v h

-- a label and behind it a number below 10 to the k
pub few_field : (k : ℕ) (label : List ℕ) (v : ℕ) → 1 ≤ k → v < 10 ^ k → length (field_text label v) ≤ length label + k
few_field k label v some h = omega (arith, length-append label (decimal_text v), few_digits k v some h)

most_last : (m v : ℕ) → length (last_digits m v) ≤ m
unfolding last_digits
most_last zero v = omega arith
most_last (suc m) v =
    choose_ind (λ (l : List ℕ). length l ≤ suc m) (ltb v 10) (λ _. omega arith)
    (λ _. omega (arith, length-append (last_digits m (v / 10)) ((48 + v % 10) ∷ []), most_last m (v / 10)))

pub most_field : (label : List ℕ) (v : ℕ) → length (field_text label v) ≤ length label + most_digits
unfolding decimal_text
most_field label v = omega (arith, length-append label (decimal_text v), most_last most_digits v)
