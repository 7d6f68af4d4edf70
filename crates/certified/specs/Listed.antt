-- A list in its array, and the certified identifiers gathered into one.
use Rattle.std.specs.Prelude.{ℕ, suc, ◌+◌, ◌-◌, ◌≤◌, ◌<◌, ◌≡◌, refl, true, false, List, [], ◌∷◌, ◌++◌, take, set}
use Rattle.std.proofs.Math.Path.{sym, ap}
use Rattle.std.proofs.Common.{◌∙◌, subst, append_assoc, append-nil, arith, length-append}
use Rattle.std.proofs.Math.ListN.{length}
use Rattle.limits.specs.Limits.{most_bases}
use Rattle.lists.specs.Lists.{pad_to}
use Rattle.lists.specs.Lists.Laws.{pad_next, pad_front}
use Rattle.protocol.specs.declared.Base.{Base}
use Rattle.protocol.specs.Links.{announces}
use Rattle.protocol.specs.Record.{link_at, link_count, announced, certified}
use Rattle.protocol.proofs.Record.Laws.{link_room}
use Rattle.protocol.proofs.Record.Announced.{announced_next, announced_skip, length_announced}
use Rattle.certified.specs.declared.List as declared

-- a list in its array, zeros behind, and its length
unfoldable pub list_of : List ℕ → declared.List
list_of l = record { ids = pad_to most_bases l; count = length l }

-- there are no more certified identifiers than bases
pub certified_most : (b : Base) → length (certified b) ≤ most_bases
unfolding certified
certified_most b = omega (arith, length_announced (link_count b) (link_at b), link_room b)

-- the first ones of its array are a list's identifiers
pub listed : (l : List ℕ) (r : declared.List) → r ≡ list_of l → take r.count r.ids ≡ l
unfolding list_of
listed l r e = ap (λ (q : declared.List). take q.count q.ids) e ∙ pad_front most_bases l (length l) refl

pub listed_count : (l : List ℕ) (r : declared.List) → r ≡ list_of l → r.count ≡ length l
unfolding list_of
listed_count l r e = ap (λ (q : declared.List). q.count) e

pub listed_most : (b : Base) (r : declared.List) → r ≡ list_of (certified b) → r.count ≤ most_bases
listed_most b r e = omega (arith, listed_count (certified b) r e, certified_most b)

-- ---- gathering: all but the identifiers announced at the first i places stand in the array
pub record Gathered (b : Base) (i : ℕ) (ids : List ℕ) (k : ℕ) : Type 0 where
  pub some : List ℕ
  pub array : ids ≡ pad_to most_bases some
  pub count : k ≡ length some
  pub rest : some ++ announced i (link_at b) ≡ certified b
  pub room : k + i ≤ most_bases

module _ (b : Base) (array : List ℕ) (count : ℕ) where
  pub gather_first : (i : ℕ) → i ≡ link_count b → array ≡ pad_to most_bases (b.own ∷ []) → count ≡ 1 → Gathered b i array count
  unfolding certified
  gather_first i h e f = record {
    some = b.own ∷ [];
    array = e;
    count = f;
    rest = ap (λ (k : ℕ). b.own ∷ announced k (link_at b)) h;
    room = omega (arith, link_room b);
  }

  gather_next : (i : ℕ) → Gathered b (suc i) array count
      → announces (link_at b i) ≡ true → Gathered b i (set array count (link_at b i).announce) (count + 1)
  gather_next i G e = let g = (link_at b i).announce in record {
    some = G.some ++ (g ∷ []);
    array = ap (λ (a : List ℕ). set a count g) G.array ∙ pad_next most_bases G.some count g (sym G.count) (omega (arith, G.room));
    count = omega (arith, G.count, length-append G.some (g ∷ []));
    rest = append_assoc G.some (g ∷ []) (announced i (link_at b))
        ∙ ap (λ (l : List ℕ). G.some ++ l) (sym (announced_next i (link_at b) e)) ∙ G.rest;
    room = omega (arith, G.room);
  }

  gather_skip : (i : ℕ) → Gathered b (suc i) array count → announces (link_at b i) ≡ false → Gathered b i array count
  gather_skip i G e = record {
    some = G.some;
    array = G.array;
    count = G.count;
    rest = ap (λ (l : List ℕ). G.some ++ l) (sym (announced_skip i (link_at b) e)) ∙ G.rest;
    room = omega (arith, G.room);
  }

  -- from place i to the one before
  pub gather_taken : (i : ℕ) → 0 < i → Gathered b i array count
      → announces (link_at b (i - 1)) ≡ true → Gathered b (i - 1) (set array count (link_at b (i - 1)).announce) (count + 1)
  gather_taken i h G = let e : i ≡ suc (i - 1) = omega arith in gather_next (i - 1) (subst (λ (j : ℕ). Gathered b j array count) e G)

  pub gather_left : (i : ℕ) → 0 < i → Gathered b i array count → announces (link_at b (i - 1)) ≡ false → Gathered b (i - 1) array count
  gather_left i h G = let e : i ≡ suc (i - 1) = omega arith in gather_skip (i - 1) (subst (λ (j : ℕ). Gathered b j array count) e G)

  pub gathered_all : Gathered b 0 array count → ◌≡◌ {A = declared.List} (record { ids = array; count = count }) (list_of (certified b))
  unfolding list_of announced
  gathered_all G =
      let e : G.some ≡ certified b = sym (append-nil G.some) ∙ G.rest in
      let p : array ≡ pad_to most_bases (certified b) = G.array ∙ ap (pad_to most_bases) e in
      let q : count ≡ length (certified b) = G.count ∙ ap length e in
      λ i. record { ids = p i; count = q i }
