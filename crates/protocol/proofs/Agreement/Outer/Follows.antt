-- A net follows a group of bases: the same records, the group's messages as frames, and
-- the same broadcasts handed over. A call at one base moves both alike.
use Rattle.std.specs.Prelude.{ℕ, suc, ◌+◌, ◌≤◌, ◌<◌, ◌≡◌, refl, Bool, List, ◌++◌, map}
use Rattle.std.proofs.Common.{sym, ap, ap₂, ◌∙◌, subst}
use Rattle.std.proofs.Math.Decide.{ℕ_discrete}
use Rattle.frame.specs.Encoding.{encode}
use Rattle.protocol.specs.declared.Base.{Base}
use Rattle.protocol.specs.Steps.{Done}
use Rattle.protocol.specs.Net.{Net, Pair, Event, at, call, replaced, carried_after, net_after}
use Rattle.protocol.proofs.Agreement.Inner.{Group, group_after, ReachedGroup}
use Rattle.protocol.proofs.Agreement.Inner.Moves.{replaced_here, replaced_other}
use Rattle.protocol.proofs.Agreement.Outer.Faulty.{table}
use Rattle.protocol.proofs.Agreement.Outer.Frames.{map_append}

pub record Matches (n : ℕ) (W : Net) (N : Group) : Type 0 where
  pub base : (x : ℕ) → x < n → W.base (suc x) ≡ N.base x
  pub log : (x : ℕ) → x < n → W.log (suc x) ≡ map encode (N.log x)
  pub carried : (x y k : ℕ) → W.carried (suc x) (suc y) (suc k) ≡ N.handed x y k

pub record Follows (n t : ℕ) (faulty : List Pair) (id : ℕ → ℕ) (W : Net) : Type 0 where
  pub group : Group
  pub reached : ReachedGroup n t (table faulty) id group
  pub matches : Matches n W group

-- ---- the net after a call at base y + 1, and the group after it
unfoldable pub carried_by : Net → Event → ℕ → ℕ → ℕ → Bool
carried_by W e x y k = carried_after W e (suc x) (suc y) (suc k)

-- two tables that agree still do where both are replaced at one base, z in the net and y in the group
replaced_across : {A B : Type 0} (h : B → A) (n : ℕ) (f : ℕ → A) (g : ℕ → B) (z y : ℕ) (a : A) (b : B) → z ≡ suc y
    → ((x : ℕ) → x < n → f (suc x) ≡ h (g x)) → a ≡ h b
    → (x : ℕ) → x < n → replaced z a f (suc x) ≡ h (replaced y b g x)
replaced_across h n f g z y a b at_y same e x l = rw at_y (elim (ℕ_discrete x y) [
  | yes q ↦ rw q (replaced_here (suc y) a f ∙ e ∙ ap h (sym (replaced_here y b g)))
  | no q ↦ replaced_other (suc y) a f (suc x) (λ r. q (cc)) ∙ same x l ∙ ap h (sym (replaced_other y b g x q))
])

pub net_after_matches : (n : ℕ) (W : Net) (N : Group) (e : Event) (y : ℕ) (d : Done) → y < n → Matches n W N → at e ≡ suc y → call W e ≡ d
    → Matches n (net_after W e) (group_after N y d (carried_by W e))
unfolding net_after group_after carried_by
net_after_matches n W N e y d y_in S here done = record {
  base = replaced_across (λ (b : Base). b) n W.base N.base (at e) y _ _ here S.base (ap (λ (f : Done). f.base) done);
  log = replaced_across (map encode) n W.log N.log (at e) y _ _ here S.log joined;
  carried = λ x z k. refl;
}
  where
    joined : W.log (at e) ++ map encode (call W e).says ≡ map encode (N.log y ++ d.says)
    joined = ap₂ (λ a b. a ++ b) (ap W.log here ∙ S.log y y_in) (ap (λ (f : Done). map encode f.says) done)
        ∙ sym (map_append (N.log y) d.says)

pub state_left : (W : Net) (e : Event) (d : Done) → call W e ≡ d → 1 ≤ d.base.state → 1 ≤ ((net_after W e).base (at e)).state
unfolding net_after
state_left W e d done h =
    subst (λ (b : Base). 1 ≤ b.state) (sym (replaced_here (at e) (call W e).base W.base ∙ ap (λ (f : Done). f.base) done)) h
