-- Statements of a call in place, or on a local that is lent, over any types, values and locals: with a bank's type and value written out at
-- each statement the kernel compares them whole.
--     relends          a slice is lent on: its pointer goes into a local, and with the count into another, which then holds the slice's own
--                      value
--     copies, hands    what lies behind the pointer in the local 1, the first parameter, is copied into a local; and at the end the two
--                      fields of a struct in a local go behind the pointer and into the result
--     gets             what a call gave goes into a local, which then holds the machine value that the type's relation tells
--     packs            a local's value is copied, and with what the call gave it becomes the result, a struct of the two
-- Assumes `Logic`.
use mathlib.Core.Path.{◌≡◌, sym, subst, refl, ap}
use Prim.Native.Nat.{ℕ}
use mathlib.Core.List.{List, [], ◌∷◌}
use seplogic.Ra.Ura.{Ura}
use base.Fraction.{full_share}
use lib.Dec.{T}
use lib.ListN.{get_or}
use mir.Syntax.{Ty, Step as Way, place, Sym, ty_struct, tcons, tnil, deref, field, copy, rv_opd, Body, seq, assign, aggregate, addr_of}
use mir.Raw.{raw as raw_ty}
use mir.Val.{Val, vptr, vstruct, vcons, vnil, has_ty, WT}
use base.Fml.{fat, froom}
use prog.Wp.{Env, Spot, no_local, Calls, Loops}
use types.Logic.{Logic}
use types.Kit.{Item, ‵, Post, runs, Step, step, ◌$◌, nth, put, lands, Seq, drop}
use types.Run.{Walks, Finds, from, look, look_raw, init, store_raw, stop, hop, fld, load, of_opd, assigns, and_then, no_more, addr, land}
use types.Part.{whole, sub, look_in, agg}
use denote.Laws.{Is, shows}
use denote.Memory.{lone}
use denote.Steps.{only, peeks}
use denote.Struct.Declared.{Declared, row}
use denote.Struct.Laws.{Laws, val, vals, lawful, tells}

-- the MIR type of a declared type
abbrev pub mir_of : Declared → Ty
mir_of T = lone (row T).mir

-- a struct of two fields, and its value
abbrev pub Pair : Sym → Ty → Ty → Ty
Pair ν τ σ = ty_struct ν (tcons τ (tcons σ tnil))

abbrev pub pair : Val → Val → Val
pair u v = vstruct (vcons u (vcons v vnil))

module _ {M : Type 1} {𝓤 : Ura M} {𝓛 : Logic 𝓤} {K : Type 0} {Γ : List (Item 𝓤)} {E : Env 𝓤 𝓛.H} where
  -- a place in a local of which the type and the block are known
  open 𝓛 use {H}

  from_local : K → {i : ℕ} {τ : Ty} {l : ℕ} {st : List Way} {sp : Spot 𝓤 H} → get_or E i (no_local 𝓤 H) ≡ (τ, l) → Walks K 𝓛 Γ E (τ, l, 0) st sp → Finds K 𝓛 Γ E (place i st) sp
  from_local t {i} {τ} {l} {st} {sp} at_i w = from t (subst (λ (e : Ty × ℕ). Walks K 𝓛 Γ E (e.0, e.1, 0) st sp) (sym at_i) w)

module _ {M : Type 1} {𝓤 : Ura M} {𝓛 : Logic 𝓤} {K : Type 0} {C : Calls 𝓤 𝓛.H} {Λ : Loops 𝓤 𝓛.H} {q : Post 𝓤 𝓛.H} {rest : Body} {Γ : List (Item 𝓤)} {E : Env 𝓤 𝓛.H} {i j k : ℕ} {ν : Sym} {τP τC τⱼ τₖ σ : Ty} {lᵢ lⱼ lₖ b o : ℕ} {v : Val} where
  open 𝓛 use {H}

  pub relends : K → get_or E i (no_local 𝓤 H) ≡ (Pair ν τP τC, lᵢ) → get_or E j (no_local 𝓤 H) ≡ (τⱼ, lⱼ) → get_or E k (no_local 𝓤 H) ≡ (τₖ, lₖ) → T (has_ty τⱼ (vptr b o)) × WT (vptr b o) → T (has_ty τₖ (pair (vptr b o) v)) × WT (pair (vptr b o) v) → Step K 𝓛
      (‵ (fat full_share (Pair ν τP τC) lᵢ 0 (pair (vptr b o) v)) ∷ ‵ (fat full_share τⱼ lⱼ 0 (vptr b o)) ∷ ‵ (fat full_share τₖ lₖ 0 (pair (vptr b o) v)) ∷ Γ)
      (runs C Λ E rest q)
      (‵ (fat full_share (Pair ν τP τC) lᵢ 0 (pair (vptr b o) v)) ∷ ‵ (froom τⱼ lⱼ 0) ∷ ‵ (froom τₖ lₖ 0) ∷ Γ)
      (runs C Λ E (seq (assign (place j []) (addr_of (place i (field 0 ∷ deref σ ∷ [])))) (seq (assign (place k []) (aggregate (copy (place j []) ∷ copy (place i (field 1 ∷ [])) ∷ []))) rest)) q)
  relends t at_i at_j at-k is-j is-k = step (λ s.
      assigns t (addr t (from_local t at_i (fld t refl (hop t (look_in t 0 (sub t 0 refl (whole t))) (stop t))))) (from_local t at_j (stop t)) (init t 1 refl is-j) $
      assigns t (agg t (and_then t (load t (from_local t at_j (stop t)) (look t 1 refl)) (and_then t (load t (from_local t at_i (fld t refl (stop t))) (look_in t 0 (sub t 1 refl (whole t)))) (no_more t)))) (from_local t at-k (stop t)) (init t 2 refl is-k) $ s)

module _ {M : Type 1} {𝓤 : Ura M} {𝓛 : Logic 𝓤} {K : Type 0} {C : Calls 𝓤 𝓛.H} {Λ : Loops 𝓤 𝓛.H} {q : Post 𝓤 𝓛.H} {rest : Body} {Γ : List (Item 𝓤)} {E : Env 𝓤 𝓛.H} {m : ℕ} {τ₁ : Ty} {l₁ l b o : ℕ} where
  open 𝓛 use {H}

  pub copies : K → {e₀ : Ty × ℕ} (B : Declared) (L : Laws B) (h : B.D) → get_or (e₀ ∷ (τ₁, l₁) ∷ E) m (no_local 𝓤 H) ≡ (mir_of B, l) → Is (row B) h (vals B L h) → Step K 𝓛
      (‵ (fat full_share τ₁ l₁ 0 (vptr b o)) ∷ ‵ (fat full_share (mir_of B) l 0 (val B L h)) ∷ ‵ (fat full_share (raw_ty (mir_of B)) b o (val B L h)) ∷ Γ)
      (runs C Λ (e₀ ∷ (τ₁, l₁) ∷ E) rest q)
      (‵ (fat full_share τ₁ l₁ 0 (vptr b o)) ∷ ‵ (froom (mir_of B) l 0) ∷ ‵ (fat full_share (raw_ty (mir_of B)) b o (val B L h)) ∷ Γ)
      (runs C Λ (e₀ ∷ (τ₁, l₁) ∷ E) (seq (assign (place m []) (rv_opd (copy (place 1 (deref (mir_of B) ∷ []))))) rest) q)
  copies t B L h at-m is = step (λ k. assigns t (of_opd t (load t (from t (hop t (look t 0 refl) (stop t))) (look_raw t 2 refl))) (from_local t at-m (stop t)) (init t 1 refl ((lawful B L 𝓛).typed h (vals B L h) is).0) $ k)

  pub hands : K → {ν : Sym} {l₀ : ℕ} {v : Val} (B : Declared) (LB : Laws B) (h : B.D) (N : Declared) (LN : Laws N) (n : N.D)
      → get_or ((mir_of N, l₀) ∷ (τ₁, l₁) ∷ E) m (no_local 𝓤 H) ≡ (Pair ν (mir_of B) (mir_of N), l) → Is (row B) h (vals B LB h) → Is (row N) n (vals N LN n) → Step K 𝓛
      (‵ (fat full_share (mir_of N) l₀ 0 (val N LN n)) ∷ ‵ (fat full_share τ₁ l₁ 0 (vptr b o)) ∷ ‵ (fat full_share (Pair ν (mir_of B) (mir_of N)) l 0 (pair (val B LB h) (val N LN n))) ∷ ‵ (fat full_share (raw_ty (mir_of B)) b o (val B LB h)) ∷ Γ)
      (runs C Λ ((mir_of N, l₀) ∷ (τ₁, l₁) ∷ E) rest q)
      (‵ (froom (mir_of N) l₀ 0) ∷ ‵ (fat full_share τ₁ l₁ 0 (vptr b o)) ∷ ‵ (fat full_share (Pair ν (mir_of B) (mir_of N)) l 0 (pair (val B LB h) (val N LN n))) ∷ ‵ (fat full_share (raw_ty (mir_of B)) b o v) ∷ Γ)
      (runs C Λ ((mir_of N, l₀) ∷ (τ₁, l₁) ∷ E) (seq (assign (place 1 (deref (mir_of B) ∷ [])) (rv_opd (copy (place m (field 0 ∷ []))))) (seq (assign (place 0 []) (rv_opd (copy (place m (field 1 ∷ []))))) rest)) q)
  hands t B LB h N LN n at-m is-h is-n = step (λ k.
      assigns t (of_opd t (load t (from_local t at-m (fld t refl (stop t))) (look_in t 2 (sub t 0 refl (whole t))))) (from t (hop t (look t 1 refl) (stop t))) (store_raw t 3 refl ((lawful B LB 𝓛).typed h (vals B LB h) is-h).0) $
      assigns t (of_opd t (load t (from_local t at-m (fld t refl (stop t))) (look_in t 2 (sub t 1 refl (whole t))))) (from t (stop t)) (init t 0 refl ((lawful N LN 𝓛).typed n (vals N LN n) is-n).0) $ k)

module _ {M : Type 1} {𝓤 : Ura M} {𝓛 : Logic 𝓤} {K : Type 0} {C : Calls 𝓤 𝓛.H} {Λ : Loops 𝓤 𝓛.H} {q : Post 𝓤 𝓛.H} {rest : Body} {Γ : List (Item 𝓤)} {E : Env 𝓤 𝓛.H} {i l : ℕ} {w : Val} where
  -- what the result owns is the head, and the local's room the entry n of the rest
  open 𝓛 use {H}

  pub gets : K → (T : Declared) (L : Laws T) (n : ℕ) (r : T.D) → get_or E i (no_local 𝓤 H) ≡ (mir_of T, l) → nth 𝓛 n Γ ≡ ‵ (froom (mir_of T) l 0)
      → (Is (row T) r (w ∷ []) → Seq K 𝓛 (put 𝓛 n (‵ (fat full_share (mir_of T) l 0 (val T L r))) Γ) (runs C Λ E rest q)) → Seq K 𝓛 (‵ ((row T).own_val r (w ∷ [])) ∷ Γ) (lands C Λ E (place i []) w rest q)
  gets t T L n r at_i at_n k = peeks t (row T) (Is (row T)) (shows 𝓛 (row T)) r (w ∷ []) (λ is. drop t $ land t (from_local t at_i (stop t)) (init t n at_n ((lawful T L 𝓛).typed r (w ∷ []) is).0) $
      subst (λ (u : Val). Seq K 𝓛 (put 𝓛 n (‵ (fat full_share (mir_of T) l 0 u)) Γ) (runs C Λ E rest q)) (sym (ap only (tells T L r (w ∷ []) is))) (k is))

module _ {M : Type 1} {𝓤 : Ura M} {𝓛 : Logic 𝓤} {K : Type 0} {C : Calls 𝓤 𝓛.H} {Λ : Loops 𝓤 𝓛.H} {q : Post 𝓤 𝓛.H} {rest : Body} {Γ : List (Item 𝓤)} {E : Env 𝓤 𝓛.H} {i j k : ℕ} {τ : Ty} {l₀ lᵢ lⱼ lₖ : ℕ} where
  open 𝓛 use {H}

  pub packs : K → (τB τN : Ty) (v_b v_n : Val) → get_or ((τ, l₀) ∷ E) i (no_local 𝓤 H) ≡ (τB, lᵢ) → get_or ((τ, l₀) ∷ E) j (no_local 𝓤 H) ≡ (τN, lⱼ) → get_or ((τ, l₀) ∷ E) k (no_local 𝓤 H) ≡ (τB, lₖ)
      → T (has_ty τB v_b) × WT v_b → T (has_ty τ (pair v_b v_n)) × WT (pair v_b v_n) → Step K 𝓛
      (‵ (fat full_share τ l₀ 0 (pair v_b v_n)) ∷ ‵ (fat full_share τB lᵢ 0 v_b) ∷ ‵ (fat full_share τN lⱼ 0 v_n) ∷ ‵ (fat full_share τB lₖ 0 v_b) ∷ Γ)
      (runs C Λ ((τ, l₀) ∷ E) rest q)
      (‵ (froom τ l₀ 0) ∷ ‵ (fat full_share τB lᵢ 0 v_b) ∷ ‵ (fat full_share τN lⱼ 0 v_n) ∷ ‵ (froom τB lₖ 0) ∷ Γ)
      (runs C Λ ((τ, l₀) ∷ E) (seq (assign (place k []) (rv_opd (copy (place i [])))) (seq (assign (place 0 []) (aggregate (copy (place k []) ∷ copy (place j []) ∷ []))) rest)) q)
  packs t τB τN v_b v_n at_i at_j at-k is-B is-both = step (λ s.
      assigns t (of_opd t (load t (from_local t at_i (stop t)) (look t 1 refl))) (from_local t at-k (stop t)) (init t 3 refl is-B) $
      assigns t (agg t (and_then t (load t (from_local t at-k (stop t)) (look t 3 refl)) (and_then t (load t (from_local t at_j (stop t)) (look t 2 refl)) (no_more t)))) (from t (stop t)) (init t 0 refl is-both) $ s)
