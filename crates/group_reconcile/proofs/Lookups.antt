-- What the tables have at a partition.
use Rattle.std.proofs.Common.{◌≡◌, ℕ, zero, suc, ◌+◌, ◌<◌, ℤ, pos, negsuc, Bool, true, false, cond, not, ◌&&◌, List, [], ◌∷◌, map, length, refl, sym, ap, ◌∙◌, arith, Option, Some, None, get_or}
use Rattle.std.specs.declared.cmp.Ordering.TheVariants.{Less, Equal, Greater}
use Rattle.std.specs.Ordering.{eq_by_cmp, is_eq, int_cmp}
use Rattle.std.specs.Cmp.{int_cmp_is}
use Rattle.std.specs.Prelude.{◌<ℤ◌}
use Rattle.std.proofs.lemmas.Int.{ints}
use Rattle.std.specs.Option.{option_map}
use Rattle.std.specs.Map.{lookup}
use Rattle.std.specs.BTreeMap.{is_at}
use Rattle.std.specs.FinMap as finite
use Rattle.group_types.specs.declared.partition.Partition.{Partition}
use Rattle.group_types.specs.Text.{Text, text_cmp}
use Rattle.group_types.specs.Partition.{partition_cmp}
use Rattle.group_types.proofs.GrantLemmas.{both_equal}
use Rattle.group_types.proofs.Orders.{text_cmp_total, partition_cmp_total, partition_cmp-IsAntisymmetric}
use Rattle.group_reconcile.specs.declared.cell.Cell.{Cell}
use Rattle.group_reconcile.specs.Tables.{Cells, TopicCells, cell_at, with_cells, cells_in, sizes_in}
use Rattle.group_reconcile.proofs.Bools.{same_both}

-- two partitions are one where the topics and the indexes are
pub eq-partition : (p q : Partition) → eq_by_cmp partition_cmp p q ≡ (eq_by_cmp text_cmp p.topic q.topic && eq_by_cmp int_cmp p.index q.index)
eq-partition p q = both_equal (text_cmp p.topic q.topic) (int_cmp p.index q.index)

-- the cell at an index of cells that begin at another, or else a given one
abbrev found : ℤ → ℕ → List (Option Cell) → Option Cell → Option Cell
found k i [] o = o
found k i (None ∷ cells) o = found k (suc i) cells o
found k i (Some c ∷ cells) o = cond (eq_by_cmp int_cmp k (pos i)) (Some c) (found k (suc i) cells o)

nested : {A : Type 0} (a b : Bool) (x y o : A) → cond (a && b) x (cond a y o) ≡ cond a (cond b x y) o
nested true b x y o = refl
nested false b x y o = refl

pub get-with_cells : (topic : Text) (i : ℕ) (cells : List (Option Cell)) (m : Cells) (q : Partition)
    → finite.get (with_cells topic i cells m) q ≡ cond (eq_by_cmp text_cmp q.topic topic) (found q.index i cells (finite.get m q)) (finite.get m q)
get-with_cells topic i [] m q = sym (same_both (eq_by_cmp text_cmp q.topic topic) (finite.get m q))
get-with_cells topic i (None ∷ cells) m q = get-with_cells topic (suc i) cells m q
get-with_cells topic i (Some c ∷ cells) m q =
    finite.get-insert partition_cmp_total (with_cells topic (suc i) cells m) (record { topic = topic; index = pos i }) c q
    ∙ (λ j. cond (eq-partition q (record { topic = topic; index = pos i }) j) (Some c) (get-with_cells topic (suc i) cells m q j))
    ∙ nested (eq_by_cmp text_cmp q.topic topic) (eq_by_cmp int_cmp q.index (pos i)) (Some c) (found q.index (suc i) cells (finite.get m q)) (finite.get m q)

pub index_same : (m n : ℕ) → m ≡ n → eq_by_cmp int_cmp (pos m) (pos n) ≡ true
index_same m n is = ap is_eq (sym (int_cmp_is (pos m) (pos n) Equal (ap pos is)))

pub index_less : (m n : ℕ) → m < n → eq_by_cmp int_cmp (pos m) (pos n) ≡ false
index_less m n is = let less : pos m <ℤ pos n = omega (arith, ints) in ap is_eq (sym (int_cmp_is (pos m) (pos n) Less less))

pub index_more : (m n : ℕ) → n < m → eq_by_cmp int_cmp (pos m) (pos n) ≡ false
index_more m n is = let more : pos n <ℤ pos m = omega (arith, ints) in ap is_eq (sym (int_cmp_is (pos m) (pos n) Greater more))

found-negative : (n i : ℕ) (cells : List (Option Cell)) → found (negsuc n) i cells None ≡ None
found-negative n i [] = refl
found-negative n i (None ∷ cells) = found-negative n (suc i) cells
found-negative n i (Some c ∷ cells) = found-negative n (suc i) cells

found-before : (n i : ℕ) (cells : List (Option Cell)) → n < i → found (pos n) i cells None ≡ None
found-before n i [] before = refl
found-before n i (None ∷ cells) before = found-before n (suc i) cells (omega arith)
found-before n i (Some c ∷ cells) before =
    ap (λ b. cond b (Some c) (found (pos n) (suc i) cells None)) (index_less n i before)
    ∙ found-before n (suc i) cells (omega arith)

found-at : (n i k : ℕ) (cells : List (Option Cell)) → k ≡ i + n → found (pos k) i cells None ≡ get_or cells n None
found-at n i k [] is = refl
found-at zero i k (None ∷ cells) is = found-before k (suc i) cells (omega arith)
found-at zero i k (Some c ∷ cells) is = ap (λ b. cond b (Some c) (found (pos k) (suc i) cells None)) (index_same k i (omega arith))
found-at (suc n) i k (None ∷ cells) is = found-at n (suc i) k cells (omega arith)
found-at (suc n) i k (Some c ∷ cells) is =
    ap (λ b. cond b (Some c) (found (pos k) (suc i) cells None)) (index_more k i (omega arith))
    ∙ found-at n (suc i) k cells (omega arith)

found-cell_at : (k : ℤ) (cells : List (Option Cell)) → found k 0 cells None ≡ cell_at cells k
found-cell_at (pos n) cells = found-at n 0 n cells (omega arith)
found-cell_at (negsuc n) cells = found-negative n 0 cells

-- what a look-up of the topic finds, at the index
abbrev pub of_topic : Option (List (Option Cell)) → ℤ → Option Cell
of_topic None k = None
of_topic (Some cells) k = cell_at cells k

abbrev pub items_of : List TopicCells → List (Text × List (Option Cell))
items_of ts = map (λ t. (t.0, t.1.items)) ts

chosen : (b : Bool) (k : ℤ) (cells : List (Option Cell)) (rest : Option Cell)
    → cond b (found k 0 cells (cond (not b) rest None)) (cond (not b) rest None) ≡ cond b (cell_at cells k) rest
chosen true k cells rest = found-cell_at k cells
chosen false k cells rest = refl

topic_of_lookup : (b : Bool) (cells : List (Option Cell)) (o : Option (List (Option Cell))) (k : ℤ)
    → cond b (cell_at cells k) (of_topic o k) ≡ of_topic (cond b (Some cells) o) k
topic_of_lookup true cells o k = refl
topic_of_lookup false cells o k = refl

pub get-cells_in : (ts : List TopicCells) (q : Partition)
    → finite.get (cells_in ts) q ≡ of_topic (lookup (is_at (text_cmp q.topic)) (items_of ts)) q.index
get-cells_in [] q = finite.get-empty partition_cmp q
get-cells_in (t ∷ ts) q =
    get-with_cells t.0 0 t.1.items (finite.retain_keys (cells_in ts) (λ p. not (eq_by_cmp text_cmp p.topic t.0))) q
    ∙ ap (λ o. cond (eq_by_cmp text_cmp q.topic t.0) (found q.index 0 t.1.items o) o)
    (finite.get-retain_keys (cells_in ts) (λ p. not (eq_by_cmp text_cmp p.topic t.0)) q (λ x tie. ap (λ (p : Partition). not (eq_by_cmp text_cmp p.topic t.0)) (sym (partition_cmp-IsAntisymmetric q x tie))))
    ∙ chosen (eq_by_cmp text_cmp q.topic t.0) q.index t.1.items (finite.get (cells_in ts) q)
    ∙ ap (cond (eq_by_cmp text_cmp q.topic t.0) (cell_at t.1.items q.index)) (get-cells_in ts q)
    ∙ topic_of_lookup (eq_by_cmp text_cmp q.topic t.0) t.1.items (lookup (is_at (text_cmp q.topic)) (items_of ts)) q.index

pub lookup-items : (topic : Text) (ts : List TopicCells)
    → lookup (is_at (text_cmp topic)) (items_of ts) ≡ option_map (λ v. v.items) (lookup (is_at (text_cmp topic)) ts)
lookup-items topic [] = refl
lookup-items topic (t ∷ ts) =
    elim (is_eq (text_cmp topic t.0)) as (λ b. cond b (Some t.1.items) (lookup (is_at (text_cmp topic)) (items_of ts)) ≡ option_map (λ v. v.items) (cond b (Some t.1) (lookup (is_at (text_cmp topic)) ts))) [
      | true ↦ refl
      | false ↦ lookup-items topic ts
    ]

pub get-sizes_in : (topic : Text) (ts : List TopicCells)
    → finite.get (sizes_in ts) topic ≡ option_map (λ v. length v.items) (lookup (is_at (text_cmp topic)) ts)
get-sizes_in topic ts = finite.get-from_entries text_cmp_total _ topic ∙ go ts
  where
    go : (ts : List TopicCells) → finite.find text_cmp topic (map (λ t. (t.0, length t.1.items)) ts) ≡ option_map (λ v. length v.items) (lookup (is_at (text_cmp topic)) ts)
    go [] = refl
    go (t ∷ ts) =
        elim (is_eq (text_cmp topic t.0)) as (λ b. cond b (Some (length t.1.items)) (finite.find text_cmp topic (map (λ t. (t.0, length t.1.items)) ts)) ≡ option_map (λ v. length v.items) (cond b (Some t.1) (lookup (is_at (text_cmp topic)) ts))) [
          | true ↦ refl
          | false ↦ go ts
        ]
