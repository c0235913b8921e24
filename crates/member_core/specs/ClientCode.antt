-- How a client's state is stored: as the nested pairs of its fields.
use Rattle.std.specs.Prelude.{◌≡◌, ℕ, zero, suc, Bool, List, Option, refl}
use Rattle.std.specs.Coded.{Coded, code_by, coded_option, coded_list, coded×, coded_ℕ, coded_bool}
use Rattle.std.specs.FinSet as set
use Rattle.group_types.specs.Text.{Text}
use Rattle.group_types.specs.Partition.{Partitions, partition_code}
use Rattle.member_core.specs.Settings.{Settings}
use Rattle.member_core.specs.Client.{Place, Outside, Inside, Gone, Client}

abbrev text_code : Coded Text
text_code = coded_list coded_ℕ

abbrev maybe_text_code : Coded (Option Text)
maybe_text_code = coded_option text_code

abbrev SettingsFields : Type 0
SettingsFields = Text × (Option Text × (Option Text × (ℕ × (List Text × Option Text))))

abbrev settings_code : Coded Settings
settings_code =
    code_by SettingsFields (coded× text_code (coded× maybe_text_code (coded× maybe_text_code (coded× coded_ℕ (coded× (coded_list text_code) maybe_text_code)))))
    (λ s. (s.group, (s.instance, (s.rack, (s.rebalance_timeout, (s.names, s.assignor))))))
    (λ p. record { group = p.0; instance = p.1.0; rack = p.1.1.0; rebalance_timeout = p.1.1.1.0; names = p.1.1.1.1.0; assignor = p.1.1.1.1.1 })
    (λ _. refl)

abbrev place_number : Place → ℕ
place_number Outside = 0
place_number Inside = 1
place_number Gone = 2

abbrev place_of : ℕ → Place
place_of zero = Outside
place_of (suc zero) = Inside
place_of (suc (suc n)) = Gone

pub place_of-number : (p : Place) → place_of (place_number p) ≡ p
place_of-number Outside = refl
place_of-number Inside = refl
place_of-number Gone = refl

abbrev place_code : Coded Place
place_code = code_by ℕ coded_ℕ place_number place_of place_of-number

abbrev partitions_code : Coded Partitions
partitions_code = set.code partition_code

abbrev ClientFields : Type 0
ClientFields = Settings × (Place × (Option Text × (ℕ × (Partitions × (Partitions × (ℕ × (Bool × Bool)))))))

abbrev pub client_code : Coded Client
client_code =
    code_by ClientFields
    (coded× settings_code (coded× place_code (coded× maybe_text_code (coded× coded_ℕ (coded× partitions_code (coded× partitions_code (coded× coded_ℕ (coded× coded_bool coded_bool))))))))
    (λ c. (c.settings, (c.place, (c.id, (c.epoch, (c.own, (c.shown, (c.number, (c.waits, c.says_all)))))))))
    (λ p. record { settings = p.0; place = p.1.0; id = p.1.1.0; epoch = p.1.1.1.0; own = p.1.1.1.1.0; shown = p.1.1.1.1.1.0; number = p.1.1.1.1.1.1.0; waits = p.1.1.1.1.1.1.1.0; says_all = p.1.1.1.1.1.1.1.1 })
    (λ _. refl)
