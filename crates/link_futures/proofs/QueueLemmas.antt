-- The replies of a queue, and the bytes of the buffers that stand behind one another for them.
use Rattle.std.proofs.Common.{◌≡◌, ℕ, suc, ◌+◌, ◌-◌, ◌<◌, ◌≤◌, List, [], ◌∷◌, ◌++◌, length, take, drop, slice_index_or, min, ⊎_elim, refl, sym, ap, ◌∙◌, arith, take-append-drop, length-drop, length-append, length-take, append_assoc, append-nil}
use Rattle.std.proofs.lemmas.Bool.{cases_lt}
use Rattle.std.proofs.lemmas.List.{nil_from_length, drop-append-le, take-append-le, take-take, take_all, take_min}
use Rattle.std.proofs.lemmas.List.Sums.{sum_by-cons, sum_by-drop_more}
use Rattle.std.proofs.lemmas.Grind.{flat_map-append}
use Rattle.std.proofs.Math.Seq.{drop-append-add, take-append-add, take-suc}
use Rattle.link_futures.specs.declared.outbox.Reply.{Reply}
use Rattle.link_futures.specs.Buffers.{Waiting, waiting_in, bytes_of_all, bytes_in, joined, unsent_of}

pub waiting_length : (replies : List Reply) (bytes : List ℕ) → length (waiting_in replies bytes) ≡ length replies
waiting_length [] bytes = refl
waiting_length (r ∷ rs) bytes = ap suc (waiting_length rs (drop r.unsent bytes))

-- where they have as many bytes as there are, they have these
pub waiting_bytes : (replies : List Reply) (bytes : List ℕ) → unsent_of replies ≡ length bytes → bytes_of_all (waiting_in replies bytes) ≡ bytes
waiting_bytes [] bytes all = sym (nil_from_length bytes (sym all))
waiting_bytes (r ∷ rs) bytes all =
    let first = sum_by-cons (λ (x : Reply). x.unsent) r rs in
    let rest : unsent_of rs ≡ length (drop r.unsent bytes) = omega (arith, all, first, length-drop r.unsent bytes) in
    ap (λ xs. take r.unsent bytes ++ xs) (waiting_bytes rs (drop r.unsent bytes) rest) ∙ take-append-drop r.unsent bytes

-- the first reply and the others
pub front_and_rest : (replies : List Reply) (reply : Reply) → 0 < length replies → reply ≡ slice_index_or replies 0 reply → unsent_of replies ≡ reply.unsent + unsent_of (drop 1 replies)
front_and_rest replies reply some is =
    sum_by-drop_more (λ (r : Reply). r.unsent) replies 0 reply some ∙ ap (λ (r : Reply). r.unsent + unsent_of (drop 1 replies)) (sym is)

bytes_in_parts : (buffers : List (List ℕ)) (n : ℕ) → bytes_in buffers ≡ bytes_in (take n buffers) ++ bytes_in (drop n buffers)
bytes_in_parts buffers n =
    ap bytes_in (sym (take-append-drop n buffers)) ∙ flat_map-append (λ (b : List ℕ). b) (take n buffers) (drop n buffers)

-- bytes at the front of the first buffers' first bytes are at the front of all
pub front_of_all : (offered : List ℕ) (buffers : List (List ℕ)) (n most k : ℕ) → offered ≡ take most (bytes_in (take n buffers)) → k ≤ length offered
    → (take k (bytes_in buffers) ≡ take k offered) × (k ≤ length (bytes_in buffers))
front_of_all offered buffers n most k e fits =
    let first = bytes_in (take n buffers) in
    let whole : bytes_in buffers ≡ first ++ bytes_in (drop n buffers) = bytes_in_parts buffers n in
    let within : k ≤ most = omega (arith, fits, ap length e, length-take most first) in
    let inside : k ≤ length first = omega (arith, fits, ap length e, length-take most first) in (
      ap (take k) whole ∙ take-append-le k first (bytes_in (drop n buffers)) inside ∙ sym (take-take k most first within) ∙ ap (take k) (sym e),
      omega (arith, inside, ap length whole, length-append first (bytes_in (drop n buffers))),
    )

drop_past : (xs ys : List ℕ) (n : ℕ) → length xs ≤ n → drop n (xs ++ ys) ≡ drop (n - length xs) ys
drop_past xs ys n past =
    let cut : n ≡ length xs + (n - length xs) = omega arith in
    ap (λ k. drop k (xs ++ ys)) cut ∙ drop-append-add xs ys (n - length xs)

-- without the first buffer
pub front_dropped : (buffers : List (List ℕ)) (buffer : List ℕ) (n : ℕ) → 0 < length buffers → buffer ≡ slice_index_or buffers 0 buffer
    → length buffer ≤ n → n ≤ length (bytes_in buffers)
    → (n - length buffer ≤ length (bytes_in (drop 1 buffers))) × (drop (n - length buffer) (bytes_in (drop 1 buffers)) ≡ drop n (bytes_in buffers))
front_dropped [] buffer n some is past fits = absurd (omega arith)
front_dropped (x ∷ xs) buffer n some is past fits =
    let same : length buffer ≡ length x = ap (λ (b : List ℕ). length b) is in (
      omega (arith, length-append x (bytes_in xs)),
      ap (λ k. drop (n - k) (bytes_in xs)) same ∙ sym (drop_past x (bytes_in xs) n (omega arith)),
    )

-- the tail becomes the last buffer
pub tail_joined : (buffers : List (List ℕ)) (buffer : List ℕ) (tail : List ℕ) → buffer ≡ tail → joined (buffers ++ buffer ∷ []) [] ≡ joined buffers tail
tail_joined buffers buffer tail is =
    append-nil _ ∙ flat_map-append (λ (b : List ℕ). b) buffers (buffer ∷ []) ∙ ap (λ xs. bytes_in buffers ++ xs) (append-nil buffer ∙ is)

module _ (replies : List Reply) (buffers : List (List ℕ)) (tail : List ℕ) (all : unsent_of replies ≡ length (joined buffers tail)) (waiting : List Waiting) (is : waiting_in replies (joined buffers tail) ≡ waiting) where
  -- they have all bytes of the buffers and the tail
  pub unsent_bytes : bytes_of_all waiting ≡ joined buffers tail
  unsent_bytes = ap bytes_of_all (sym is) ∙ waiting_bytes replies (joined buffers tail) all

  pub unsent_length : length (bytes_of_all waiting) ≡ unsent_of replies
  unsent_length = omega (arith, all, ap length unsent_bytes)

  -- more bytes came behind them, and a reply for these
  pub bytes_appended : (after : List Reply) (more : List ℕ) (longer : List ℕ) → longer ≡ tail ++ more → unsent_of after ≡ length (joined buffers longer)
      → bytes_of_all (waiting_in after (joined buffers longer)) ≡ bytes_of_all waiting ++ more
  bytes_appended after more longer appended fits =
      waiting_bytes after (joined buffers longer) fits ∙ ap (λ xs. bytes_in buffers ++ xs) appended ∙ sym (append_assoc (bytes_in buffers) tail more)
      ∙ ap (λ xs. xs ++ more) (sym unsent_bytes)

  -- `count` bytes of the buffers were written
  pub bytes_dropped : (after : List Reply) (left : List (List ℕ)) (count : ℕ) → count ≤ length (bytes_in buffers) → bytes_in left ≡ drop count (bytes_in buffers)
      → unsent_of after + count ≡ unsent_of replies
      → (unsent_of after ≡ length (joined left tail)) × (bytes_of_all (waiting_in after (joined left tail)) ≡ drop count (bytes_of_all waiting))
  bytes_dropped after left count there dropped fewer =
      let short : length (bytes_in left) + count ≡ length (bytes_in buffers) = omega (arith, there, ap length dropped, length-drop count (bytes_in buffers)) in
      let fits : unsent_of after ≡ length (joined left tail) = omega (arith, all, fewer, short, length-append (bytes_in left) tail, length-append (bytes_in buffers) tail) in (
        fits,
        waiting_bytes after (joined left tail) fits ∙ ap (λ xs. xs ++ tail) dropped ∙ sym (drop-append-le count (bytes_in buffers) tail there)
            ∙ ap (drop count) (sym unsent_bytes),
      )

  -- what a write takes of the buffers' bytes is a front part of all
  pub bytes_written : (after : List ℕ) (count : ℕ) → count ≤ length (bytes_in buffers) → after ≡ drop count (bytes_of_all waiting)
      → bytes_of_all waiting ≡ take count (bytes_in buffers) ++ after
  bytes_written after count there dropped =
      sym (take-append-drop count (bytes_of_all waiting)) ∙ ap (λ xs. xs ++ drop count (bytes_of_all waiting)) (ap (take count) unsent_bytes ∙ take-append-le count (bytes_in buffers) tail there)
      ∙ ap (λ xs. take count (bytes_in buffers) ++ xs) (sym dropped)

take_both : (n : ℕ) (xs ys : List ℕ) → take n (xs ++ ys) ≡ take n xs ++ take (n - length xs) ys
take_both n xs ys =
    ⊎_elim
    (λ (h : n < length xs).
    let none : n - length xs ≡ 0 = omega (arith, h) in
    take-append-le n xs ys (omega (arith, h)) ∙ sym (ap (λ k. take n xs ++ take k ys) none ∙ append-nil (take n xs)))
    (λ (h : length xs ≤ n).
    let cut : n ≡ length xs + (n - length xs) = omega (arith, h) in
    ap (λ k. take k (xs ++ ys)) cut ∙ take-append-add xs ys (n - length xs) ∙ ap (λ zs. zs ++ take (n - length xs) ys) (sym (take_all n xs h)))
    (cases_lt n (length xs))

-- one more buffer's bytes are among the first `most`
pub front_with : (buffers : List (List ℕ)) (place most left : ℕ) (buffer : List ℕ) (len : ℕ) → place < length buffers → buffer ≡ slice_index_or buffers place buffer
    → left ≡ most - length (bytes_in (take place buffers)) → len ≡ min left (length buffer)
    → (left - len ≡ most - length (bytes_in (take (place + 1) buffers))) × (take most (bytes_in (take place buffers)) ++ take len buffer ≡ take most (bytes_in (take (place + 1) buffers)))
front_with buffers place most left buffer len inside is rest part =
    let front = bytes_in (take place buffers) in
    let next : place + 1 ≡ suc place = omega arith in
    let more : bytes_in (take (place + 1) buffers) ≡ front ++ buffer =
    ap bytes_in (ap (λ k. take k buffers) next ∙ take-suc buffers place buffer inside ∙ ap (λ (b : List ℕ). take place buffers ++ b ∷ []) (sym is))
    ∙ flat_map-append (λ (b : List ℕ). b) (take place buffers) (buffer ∷ []) ∙ ap (λ xs. front ++ xs) (append-nil buffer) in
    let cut : take most (front ++ buffer) ≡ take most front ++ take (most - length front) buffer = take_both most front buffer in
    let all : take len buffer ≡ take left buffer = ap (λ n. take n buffer) part ∙ take_min left buffer in (
      omega (arith, rest, part, ap length more, length-append front buffer),
      ap (λ xs. take most front ++ xs) (all ∙ ap (λ n. take n buffer) rest) ∙ sym cut ∙ ap (take most) (sym more),
    )
