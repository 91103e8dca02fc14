-- The programs that a domain of each role may run.
use Rattle.std.specs.Prelude.{◌≡◌, ℕ, ◌⊎◌, List, codes}
use Rattle.sdf_plan.specs.declared.class_table.role.Role.{Role}
use Rattle.sdf_plan.specs.declared.class_table.role.Role.TheVariants as For

-- the programs of a role
abbrev pub IsProgramOf : Role → List ℕ → Type 0
IsProgramOf For.NetDriver program = program ≡ codes "eth_driver"
IsProgramOf For.NetRxVirt program = program ≡ codes "net_virt_rx"
IsProgramOf For.NetTxVirt program = program ≡ codes "net_virt_tx"
IsProgramOf For.NetCopier program = program ≡ codes "net_copier"
IsProgramOf For.NetClient program =
    (program ≡ codes "net_sink") ⊎ (program ≡ codes "net_source") ⊎ (program ≡ codes "net_echo")
    ⊎ (program ≡ codes "net_rogue")
IsProgramOf For.SerialDriver program = program ≡ codes "uart_driver"
IsProgramOf For.SerialRxVirt program = program ≡ codes "serial_virt_rx"
IsProgramOf For.SerialTxVirt program = program ≡ codes "serial_virt_tx"
IsProgramOf For.SerialClient program =
    (program ≡ codes "serial_reader") ⊎ (program ≡ codes "serial_speaker")
    ⊎ (program ≡ codes "serial_rogue")
IsProgramOf For.BlkDriver program = program ≡ codes "blk_driver"
IsProgramOf For.BlkVirt program = program ≡ codes "blk_virt"
IsProgramOf For.BlkClient program = (program ≡ codes "blk_script") ⊎ (program ≡ codes "blk_rogue")
