-- Bytes in fours: what a send and a receive add to the words that have left or come.
use Prim.Native.Nat.{ℕ, ◌+◌, ◌-◌, ◌*◌, ◌/◌, ◌%◌, ◌^◌, ◌<◌}
use native.Mathlib.Omega.{arith}
use mathlib.Core.Path.{◌≡◌, refl, ap, sym, ◌∙◌, subst}
use mathlib.Core.List.{List, [], ◌∷◌, ◌++◌, map, append_assoc, append-nil}
use lib.ListN.{length, take, length-append}
use lib.Seq.{take_at}
use Rattle.data_model.specs.Account.{four_bytes, word_of, fours, packed_words, full_words, Departure, sent_for, LeftAs, Went}

-- ── Words that left ───────────────────────────────────────────────────────────────────────────────────────────
-- one word for each departure, in this order
unfoldable pub AllLeft : List Departure → List ℕ → Type 0
AllLeft [] [] = Unit {0}
AllLeft [] (w ∷ ws) = ⊥
AllLeft (d ∷ ds) [] = ⊥
AllLeft (d ∷ ds) (w ∷ ws) = LeftAs d w × AllLeft ds ws

-- with those that wait behind them
pub left_went : (ds : List Departure) (ws waiting : List ℕ) → AllLeft ds ws → Went ds (ws ++ waiting) waiting
unfolding AllLeft Went
left_went [] [] waiting h = refl
left_went [] (w ∷ ws) waiting h = absurd h
left_went (d ∷ ds) [] waiting h = absurd h
left_went (d ∷ ds) (w ∷ ws) waiting h = (h.0, left_went ds ws waiting h.1)

-- ── Whole words first ─────────────────────────────────────────────────────────────────────────────────────────
pub fours_append : (xs ys : List ℕ) → length xs % 4 ≡ 0 → fours (xs ++ ys) ≡ fours xs ++ fours ys
unfolding fours
fours_append [] ys e = refl
fours_append (a ∷ []) ys e = absurd (omega arith)
fours_append (a ∷ b ∷ []) ys e = absurd (omega arith)
fours_append (a ∷ b ∷ c ∷ []) ys e = absurd (omega arith)
fours_append (a ∷ b ∷ c ∷ d ∷ xs) ys e = ap (λ (l : List (List ℕ)). (a ∷ b ∷ c ∷ d ∷ []) ∷ l) (fours_append xs ys (omega arith))

pub packed_append : (xs ys : List ℕ) → length xs % 4 ≡ 0 → packed_words (xs ++ ys) ≡ packed_words xs ++ packed_words ys
unfolding packed_words
packed_append [] ys e = refl
packed_append (a ∷ []) ys e = absurd (omega arith)
packed_append (a ∷ b ∷ []) ys e = absurd (omega arith)
packed_append (a ∷ b ∷ c ∷ []) ys e = absurd (omega arith)
packed_append (a ∷ b ∷ c ∷ d ∷ xs) ys e = ap (λ (l : List ℕ). word_of a b c d ∷ l) (packed_append xs ys (omega arith))

pub left_append : (ds es : List Departure) (ws vs : List ℕ) → AllLeft ds ws → AllLeft es vs → AllLeft (ds ++ es) (ws ++ vs)
unfolding AllLeft
left_append [] es [] vs h k = k
left_append [] es (w ∷ ws) vs h k = absurd h
left_append (d ∷ ds) es [] vs h k = absurd h
left_append (d ∷ ds) es (w ∷ ws) vs h k = (h.0, left_append ds es ws vs h.1 k)

-- ── A byte sent ───────────────────────────────────────────────────────────────────────────────────────────────
-- The bytes sent of the word that left last, that word, and the part word: what is unsent has moved up to its top.
pub data Tail : List ℕ → List ℕ → ℕ → Type 0 where
  none : {p : ℕ} → Tail [] [] p
  one : {w : ℕ} → Tail (w / 2 ^ 24 % 256 ∷ []) (w ∷ []) (w % 2 ^ 24 * 2 ^ 8)
  two : {w : ℕ} → Tail (w / 2 ^ 24 % 256 ∷ w / 2 ^ 16 % 256 ∷ []) (w ∷ []) (w % 2 ^ 16 * 2 ^ 16)
  three : {w : ℕ} → Tail (w / 2 ^ 24 % 256 ∷ w / 2 ^ 16 % 256 ∷ w / 2 ^ 8 % 256 ∷ []) (w ∷ []) (w % 2 ^ 8 * 2 ^ 24)

second_byte : (w : ℕ) → w % 2 ^ 24 * 2 ^ 8 / 2 ^ 24 % 256 ≡ w / 2 ^ 16 % 256
second_byte w = omega arith

third_byte : (w : ℕ) → w % 2 ^ 16 * 2 ^ 16 / 2 ^ 24 % 256 ≡ w / 2 ^ 8 % 256
third_byte w = omega arith

fourth_byte : (w : ℕ) → w % 2 ^ 8 * 2 ^ 24 / 2 ^ 24 % 256 ≡ w % 256
fourth_byte w = omega arith

second_part : (w : ℕ) → w % 2 ^ 24 * 2 ^ 8 % 2 ^ 24 * 2 ^ 8 ≡ w % 2 ^ 16 * 2 ^ 16
second_part w = omega arith

third_part : (w : ℕ) → w % 2 ^ 16 * 2 ^ 16 % 2 ^ 24 * 2 ^ 8 ≡ w % 2 ^ 8 * 2 ^ 24
third_part w = omega arith

-- what an open write has sent, and the words that left for it: whole words, then the one sent in part
pub record Sending (i : ℕ) (bs here : List ℕ) (part : ℕ) : Type 0 where
  pub whole : List ℕ
  pub tail : List ℕ
  pub words : List ℕ
  pub last : List ℕ
  pub bytes : bs ≡ whole ++ tail
  pub fourth : length whole % 4 ≡ 0
  pub left : AllLeft (map (sent_for i) (fours whole)) words
  pub begun : Tail tail last part
  pub gone : here ≡ words ++ last

map_append : (f : List ℕ → Departure) (xs ys : List (List ℕ)) → map f (xs ++ ys) ≡ map f xs ++ map f ys
map_append f [] ys = refl
map_append f (x ∷ xs) ys = ap (λ (l : List Departure). f x ∷ l) (map_append f xs ys)

tail_left : (i : ℕ) (tail last : List ℕ) (p : ℕ) → Tail tail last p → AllLeft (map (sent_for i) (fours tail)) last
unfolding fours AllLeft
tail_left i tail last p none = tt
tail_left i tail last p one = (refl, tt)
tail_left i tail last p two = (refl, tt)
tail_left i tail last p three = (refl, tt)

whole_left : (i : ℕ) (whole tail words last : List ℕ) → length whole % 4 ≡ 0 → AllLeft (map (sent_for i) (fours whole)) words → AllLeft (map (sent_for i) (fours tail)) last → AllLeft (map (sent_for i) (fours (whole ++ tail))) (words ++ last)
whole_left i whole tail words last e h k =
    subst (λ (l : List Departure). AllLeft l (words ++ last)) (sym (ap (map (sent_for i)) (fours_append whole tail e) ∙ map_append (sent_for i) (fours whole) (fours tail)))
    (left_append (map (sent_for i) (fours whole)) (map (sent_for i) (fours tail)) words last h k)

-- then each word that left carries the bytes that it should
pub sending_left : (i : ℕ) (bs here : List ℕ) (part : ℕ) → Sending i bs here part → AllLeft (map (sent_for i) (fours bs)) here
sending_left i bs here part s =
    subst (λ (l : List ℕ). AllLeft (map (sent_for i) (fours l)) here) (sym s.bytes)
    (subst (AllLeft (map (sent_for i) (fours (s.whole ++ s.tail)))) (sym s.gone) (whole_left i s.whole s.tail s.words s.last s.fourth s.left (tail_left i s.tail s.last part s.begun)))

pub sending_none : (i p : ℕ) → Sending i [] [] p
unfolding fours AllLeft
sending_none i p = record { whole = []; tail = []; words = []; last = []; bytes = refl; fourth = refl; left = tt; begun = none; gone = refl }

-- the first byte of a word takes the word along
pub send_first : (i : ℕ) (bs here : List ℕ) (part w : ℕ) → length bs % 4 ≡ 0 → Sending i bs here part → Sending i (bs ++ (w / 2 ^ 24 % 256 ∷ [])) (here ++ (w ∷ [])) (w % 2 ^ 24 * 2 ^ 8)
send_first i bs here part w e s = go s.whole s.tail s.words s.last part s.bytes s.fourth s.left s.begun s.gone
  where
    go : (whole tail words last : List ℕ) (p : ℕ) → bs ≡ whole ++ tail → length whole % 4 ≡ 0 → AllLeft (map (sent_for i) (fours whole)) words → Tail tail last p → here ≡ words ++ last → Sending i (bs ++ (w / 2 ^ 24 % 256 ∷ [])) (here ++ (w ∷ [])) (w % 2 ^ 24 * 2 ^ 8)
    go whole tail words last p b f l none g =
        record { whole = whole; tail = w / 2 ^ 24 % 256 ∷ []; words = words; last = w ∷ []; bytes = ap (λ (x : List ℕ). x ++ (w / 2 ^ 24 % 256 ∷ [])) (b ∙ append-nil whole); fourth = f; left = l; begun = one; gone = ap (λ (x : List ℕ). x ++ (w ∷ [])) (g ∙ append-nil words) }
    go whole tail words last p b f l one g = absurd (let n = ap length b ∙ length-append whole tail in omega arith)
    go whole tail words last p b f l two g = absurd (let n = ap length b ∙ length-append whole tail in omega arith)
    go whole tail words last p b f l three g = absurd (let n = ap length b ∙ length-append whole tail in omega arith)

-- a later byte comes from the part word
pub send_next : (i : ℕ) (bs here : List ℕ) (part : ℕ) → (length bs % 4 ≡ 0 → ⊥) → Sending i bs here part → Sending i (bs ++ (part / 2 ^ 24 % 256 ∷ [])) here (part % 2 ^ 24 * 2 ^ 8)
unfolding fours AllLeft
send_next i bs here part e s = go s.whole s.tail s.words s.last part s.bytes s.fourth s.left s.begun s.gone
  where
    longer : (whole tail : List ℕ) (b : ℕ) → bs ≡ whole ++ tail → bs ++ (b ∷ []) ≡ whole ++ (tail ++ (b ∷ []))
    longer whole tail b h = ap (λ (x : List ℕ). x ++ (b ∷ [])) h ∙ append_assoc whole tail (b ∷ [])

    go : (whole tail words last : List ℕ) (p : ℕ) → bs ≡ whole ++ tail → length whole % 4 ≡ 0 → AllLeft (map (sent_for i) (fours whole)) words → Tail tail last p → here ≡ words ++ last → Sending i (bs ++ (p / 2 ^ 24 % 256 ∷ [])) here (p % 2 ^ 24 * 2 ^ 8)
    go whole tail words last p b f l none g = absurd (e (let n = ap length b ∙ length-append whole [] in omega arith))
    go whole tail words last p b f l (one {w}) g =
        rw (second_byte w, second_part w)
        (record { whole = whole; tail = w / 2 ^ 24 % 256 ∷ w / 2 ^ 16 % 256 ∷ []; words = words; last = w ∷ []; bytes = longer whole (w / 2 ^ 24 % 256 ∷ []) (w / 2 ^ 16 % 256) b; fourth = f; left = l; begun = two; gone = g })
    go whole tail words last p b f l (two {w}) g =
        rw (third_byte w, third_part w)
        (record { whole = whole; tail = w / 2 ^ 24 % 256 ∷ w / 2 ^ 16 % 256 ∷ w / 2 ^ 8 % 256 ∷ []; words = words; last = w ∷ []; bytes = longer whole (w / 2 ^ 24 % 256 ∷ w / 2 ^ 16 % 256 ∷ []) (w / 2 ^ 8 % 256) b; fourth = f; left = l; begun = three; gone = g })
    go whole tail words last p b f l (three {w}) g =
        rw (fourth_byte w)
        (record {
          whole = whole ++ four_bytes w;
          tail = [];
          words = words ++ (w ∷ []);
          last = [];
          bytes = longer whole (w / 2 ^ 24 % 256 ∷ w / 2 ^ 16 % 256 ∷ w / 2 ^ 8 % 256 ∷ []) (w % 256) b ∙ sym (append-nil (whole ++ four_bytes w));
          fourth = simp length-append (omega arith);
          left = whole_left i whole (four_bytes w) words (w ∷ []) f l (refl, tt);
          begun = none;
          gone = g ∙ sym (append-nil (words ++ (w ∷ [])));
        })

-- ── A byte received ───────────────────────────────────────────────────────────────────────────────────────────
-- the bytes gathered since the last push, and the part word that holds them
pub data Gathered : List ℕ → ℕ → Type 0 where
  none : Gathered [] 0
  one : {a : ℕ} → Gathered (a ∷ []) (word_of a 0 0 0)
  two : {a c : ℕ} → Gathered (a ∷ c ∷ []) (word_of a c 0 0)
  three : {a c d : ℕ} → Gathered (a ∷ c ∷ d ∷ []) (word_of a c d 0)

-- what an open read has received: whole words, all pushed, then what is gathered
pub record Receiving (bs : List ℕ) (part : ℕ) : Type 0 where
  pub whole : List ℕ
  pub tail : List ℕ
  pub bytes : bs ≡ whole ++ tail
  pub fourth : length whole % 4 ≡ 0
  pub held : Gathered tail part

pub receiving_none : Receiving [] 0
receiving_none = record { whole = []; tail = []; bytes = refl; fourth = refl; held = none }

packed_length : (xs : List ℕ) → length xs % 4 ≡ 0 → length (packed_words xs) ≡ length xs / 4
unfolding packed_words
packed_length [] e = refl
packed_length (a ∷ []) e = absurd (omega arith)
packed_length (a ∷ b ∷ []) e = absurd (omega arith)
packed_length (a ∷ b ∷ c ∷ []) e = absurd (omega arith)
packed_length (a ∷ b ∷ c ∷ d ∷ xs) e = let k = packed_length xs (omega arith) in omega arith

-- the full words are those of the whole part
full_whole : (whole tail : List ℕ) → length whole % 4 ≡ 0 → length tail < 4 → full_words (whole ++ tail) ≡ packed_words whole
full_whole whole tail e l =
    let n : length (packed_words whole) ≡ length (whole ++ tail) / 4 = packed_length whole e ∙ (simp length-append (omega arith)) in
    ap (take (length (whole ++ tail) / 4)) (packed_append whole tail e) ∙ take_at (packed_words whole) (packed_words tail) (length (whole ++ tail) / 4) n

-- a byte that does not fill a word is gathered, and no full word is added
pub receive_part : (bs : List ℕ) (part b : ℕ) → (length bs % 4 ≡ 3 → ⊥) → Receiving bs part → (let n = length bs in Receiving (bs ++ (b ∷ [])) (part + b * 2 ^ (24 - 8 * (n % 4))) × (full_words (bs ++ (b ∷ [])) ≡ full_words bs))
receive_part bs part b e r = go r.whole r.tail part r.bytes r.fourth r.held
  where
    longer : (whole tail : List ℕ) → bs ≡ whole ++ tail → bs ++ (b ∷ []) ≡ whole ++ (tail ++ (b ∷ []))
    longer whole tail h = ap (λ (x : List ℕ). x ++ (b ∷ [])) h ∙ append_assoc whole tail (b ∷ [])

    same : (whole tail : List ℕ) → bs ≡ whole ++ tail → length whole % 4 ≡ 0 → length tail < 3 → full_words (bs ++ (b ∷ [])) ≡ full_words bs
    same whole tail h f l = ap full_words (longer whole tail h) ∙ full_whole whole (tail ++ (b ∷ [])) f (simp length-append (omega arith)) ∙ sym (ap full_words h ∙ full_whole whole tail f (omega arith))

    count : (whole tail : List ℕ) → bs ≡ whole ++ tail → length whole % 4 ≡ 0 → length tail < 4 → length bs % 4 ≡ length tail
    count whole tail h f l = let n = ap length h ∙ length-append whole tail in omega arith

    -- behind those of tail, in the part word w
    gathers : (whole tail : List ℕ) (p w : ℕ) → bs ≡ whole ++ tail → length whole % 4 ≡ 0 → length tail < 3 → w ≡ p + b * 2 ^ (24 - 8 * length tail) → Gathered (tail ++ (b ∷ [])) w
        → Receiving (bs ++ (b ∷ [])) (p + b * 2 ^ (24 - 8 * (length bs % 4))) × (full_words (bs ++ (b ∷ [])) ≡ full_words bs)
    gathers whole tail p w h f l e g = (
      subst (Receiving (bs ++ (b ∷ []))) (e ∙ ap (λ (k : ℕ). p + b * 2 ^ (24 - 8 * k)) (sym (count whole tail h f (omega arith))))
          (record { whole = whole; tail = tail ++ (b ∷ []); bytes = longer whole tail h; fourth = f; held = g }),
      same whole tail h f l,
    )

    go : (whole tail : List ℕ) (p : ℕ) → bs ≡ whole ++ tail → length whole % 4 ≡ 0 → Gathered tail p → Receiving (bs ++ (b ∷ [])) (p + b * 2 ^ (24 - 8 * (length bs % 4))) × (full_words (bs ++ (b ∷ [])) ≡ full_words bs)
    go whole tail p h f none = gathers whole [] 0 (word_of b 0 0 0) h f (omega arith) (omega arith) one
    go whole tail p h f (one {a}) = gathers whole (a ∷ []) (word_of a 0 0 0) (word_of a b 0 0) h f (omega arith) (omega arith) two
    go whole tail p h f (two {a} {c}) = gathers whole (a ∷ c ∷ []) (word_of a c 0 0) (word_of a c b 0) h f (omega arith) (omega arith) three
    go whole tail p h f (three {a} {c} {d}) = absurd (e (count whole (a ∷ c ∷ d ∷ []) h f (omega arith)))

-- the fourth byte brings a full word: the part word with it
pub receive_fourth : (bs : List ℕ) (part b : ℕ) → length bs % 4 ≡ 3 → Receiving bs part → (let n = length bs in Receiving (bs ++ (b ∷ [])) 0 × (full_words (bs ++ (b ∷ [])) ≡ full_words bs ++ ((part + b * 2 ^ (24 - 8 * (n % 4))) ∷ [])))
unfolding packed_words
receive_fourth bs part b e r = go r.whole r.tail part r.bytes r.fourth r.held
  where
    short : (whole tail : List ℕ) → bs ≡ whole ++ tail → length whole % 4 ≡ 0 → length tail < 3 → ⊥
    short whole tail h f l = let n = ap length h ∙ length-append whole tail in omega arith

    go : (whole tail : List ℕ) (p : ℕ) → bs ≡ whole ++ tail → length whole % 4 ≡ 0 → Gathered tail p → Receiving (bs ++ (b ∷ [])) 0 × (full_words (bs ++ (b ∷ [])) ≡ full_words bs ++ ((p + b * 2 ^ (24 - 8 * (length bs % 4))) ∷ []))
    go whole tail p h f none = absurd (short whole [] h f (omega arith))
    go whole tail p h f (one {a}) = absurd (short whole (a ∷ []) h f (omega arith))
    go whole tail p h f (two {a} {c}) = absurd (short whole (a ∷ c ∷ []) h f (omega arith))
    go whole tail p h f (three {a} {c} {d}) =
        let four = a ∷ c ∷ d ∷ b ∷ [] in
        let z : bs ++ (b ∷ []) ≡ whole ++ four ++ [] = ap (λ (x : List ℕ). x ++ (b ∷ [])) h ∙ append_assoc whole (a ∷ c ∷ d ∷ []) (b ∷ []) ∙ sym (append-nil (whole ++ four)) in
        let g : length (whole ++ four) % 4 ≡ 0 = simp length-append (omega arith) in
        let w : word_of a c d b ≡ word_of a c d 0 + b * 2 ^ (24 - 8 * 3) = omega arith in (
          record { whole = whole ++ four; tail = []; bytes = z; fourth = g; held = none },
          ap full_words z
              ∙ full_whole (whole ++ four) [] g (omega arith)
              ∙ packed_append whole four f
              ∙ ap (λ (x : ℕ). packed_words whole ++ (x ∷ [])) w
              ∙ ap (λ (x : List ℕ). x ++ ((word_of a c d 0 + b * 2 ^ (24 - 8 * 3)) ∷ [])) (sym (ap full_words h ∙ full_whole whole (a ∷ c ∷ d ∷ []) f (omega arith)))
              ∙ ap (λ (k : ℕ). full_words bs ++ ((word_of a c d 0 + b * 2 ^ (24 - 8 * k)) ∷ [])) (sym e),
        )

-- a finish pushes the part word exactly where bytes are gathered
pub finish_packed : (bs : List ℕ) (part : ℕ) → Receiving bs part → (length bs % 4 ≡ 0 → packed_words bs ≡ full_words bs) × ((length bs % 4 ≡ 0 → ⊥) → packed_words bs ≡ full_words bs ++ (part ∷ []))
unfolding packed_words
finish_packed bs part r = go r.whole r.tail part r.bytes r.fourth r.held
  where
    split : (whole tail : List ℕ) → bs ≡ whole ++ tail → length whole % 4 ≡ 0 → length tail < 4 → packed_words bs ≡ full_words bs ++ packed_words tail
    split whole tail h f l = ap packed_words h ∙ packed_append whole tail f ∙ ap (λ (x : List ℕ). x ++ packed_words tail) (sym (ap full_words h ∙ full_whole whole tail f l))

    some_left : (whole tail : List ℕ) → bs ≡ whole ++ tail → length whole % 4 ≡ 0 → length tail < 4 → 0 < length tail → length bs % 4 ≡ 0 → ⊥
    some_left whole tail h f l k e = let n = ap length h ∙ length-append whole tail in omega arith

    go : (whole tail : List ℕ) (p : ℕ) → bs ≡ whole ++ tail → length whole % 4 ≡ 0 → Gathered tail p → (length bs % 4 ≡ 0 → packed_words bs ≡ full_words bs) × ((length bs % 4 ≡ 0 → ⊥) → packed_words bs ≡ full_words bs ++ (p ∷ []))
    go whole tail p h f none = (λ e. split whole [] h f (omega arith) ∙ append-nil (full_words bs), λ n. absurd (n (let k = ap length h ∙ length-append whole [] in omega arith)))
    go whole tail p h f (one {a}) = (λ e. absurd (some_left whole (a ∷ []) h f (omega arith) (omega arith) e), λ n. split whole (a ∷ []) h f (omega arith))
    go whole tail p h f (two {a} {c}) = (λ e. absurd (some_left whole (a ∷ c ∷ []) h f (omega arith) (omega arith) e), λ n. split whole (a ∷ c ∷ []) h f (omega arith))
    go whole tail p h f (three {a} {c} {d}) = (λ e. absurd (some_left whole (a ∷ c ∷ d ∷ []) h f (omega arith) (omega arith) e), λ n. split whole (a ∷ c ∷ d ∷ []) h f (omega arith))
