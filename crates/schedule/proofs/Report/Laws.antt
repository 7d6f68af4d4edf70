-- Laws of a report's lines: a list one identifier at a time, and the lines one base at a time.
use Rattle.std.specs.Prelude.{ℕ, ◌+◌, ◌≤◌, ◌<◌, ◌≡◌, refl, List, [], ◌∷◌, ◌++◌, length, get_or, take}
use Rattle.std.proofs.Common.{sym, ap, ◌∙◌, append_assoc, append-nil, add-one, take-suc, take_all}
use Rattle.print.specs.Decimal.{decimal_text}
use Rattle.lines.specs.Lines.{space}
use Rattle.protocol.specs.Net.{Net}
use Rattle.schedule.specs.Report.{list_text, base_line, base_lines}

-- ---- a list
list_append : (l m : List ℕ) → list_text (l ++ m) ≡ list_text l ++ list_text m
unfolding list_text
list_append [] m = refl
list_append (v ∷ l) m = ap (λ (t : List ℕ). (space ∷ decimal_text v) ++ t) (list_append l m)
    ∙ sym (append_assoc (space ∷ decimal_text v) (list_text l) (list_text m))

pub list_none : (l : List ℕ) → list_text (take 0 l) ≡ []
unfolding list_text
list_none l = refl

list_one : (v : ℕ) → list_text (v ∷ []) ≡ space ∷ decimal_text v
unfolding list_text
list_one v = append-nil (space ∷ decimal_text v)

pub list_more : (l : List ℕ) (i : ℕ) → i < length l
    → list_text (take i l) ++ (space ∷ decimal_text (get_or l i 0)) ≡ list_text (take (i + 1) l)
list_more l i h =
    sym (ap (λ (k : ℕ). list_text (take k l)) (add-one i) ∙ ap list_text (take-suc l i 0 h) ∙ list_append (take i l) (get_or l i 0 ∷ [])
    ∙ ap (λ (t : List ℕ). list_text (take i l) ++ t) (list_one (get_or l i 0)))

pub list_all : (l : List ℕ) (i : ℕ) → length l ≤ i → list_text (take i l) ≡ list_text l
list_all l i h = ap list_text (take_all i l h)

-- ---- one base more
pub bases_none : (W : Net) → base_lines 0 W ≡ []
unfolding base_lines
bases_none W = refl

pub bases_more : (b : ℕ) (W : Net) → base_lines b W ++ base_line (b + 1) (W.base (b + 1)) ≡ base_lines (b + 1) W
unfolding base_lines
bases_more b W = ap (λ (k : ℕ). base_lines b W ++ base_line k (W.base k)) (add-one b) ∙ ap (λ (k : ℕ). base_lines k W) (sym (add-one b))
