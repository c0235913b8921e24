-- What a line holds back: the bytes of frames that aren't answered, and replies that aren't written.
use Rattle.std.specs.Prelude.{ℕ, List, [], ◌∷◌, ◌++◌, take, drop, refl}
use Rattle.std.specs.List.{flat_map, sum_by}
use Rattle.std.specs.Coded.{Coded, code_by, coded×, coded_list, coded_ℕ}
use Rattle.link_futures.specs.declared.outbox.Reply.{Reply}

-- the unwritten bytes of a reply, and the number of its frame
pub record Waiting : Type 0 where
  pub frame : ℕ
  pub bytes : List ℕ

abbrev pub waiting_code : Coded (List Waiting)
waiting_code =
    coded_list (code_by (ℕ × List ℕ) (coded× coded_ℕ (coded_list coded_ℕ)) (λ w. (w.frame, w.bytes)) (λ p. record { frame = p.0; bytes = p.1 }) (λ _. refl))

-- the bytes of buffers, one after the other
abbrev pub bytes_in : List (List ℕ) → List ℕ
bytes_in = flat_map (λ b. b)

-- the same, and those of the tail after them
abbrev pub joined : List (List ℕ) → List ℕ → List ℕ
joined buffers tail = bytes_in buffers ++ tail

-- how many bytes of these replies aren't written
abbrev pub unsent_of : List Reply → ℕ
unsent_of replies = sum_by (λ r. r.unsent) replies

-- these replies, whose unwritten bytes stand one after the other
abbrev pub waiting_in : List Reply → List ℕ → List Waiting
waiting_in [] bytes = []
waiting_in (r ∷ rs) bytes = record { frame = r.frame; bytes = take r.unsent bytes } ∷ waiting_in rs (drop r.unsent bytes)

-- all their bytes in order
abbrev pub bytes_of_all : List Waiting → List ℕ
bytes_of_all = flat_map (λ w. w.bytes)
