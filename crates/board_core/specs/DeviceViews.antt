-- What a view says of a device.
use Rattle.kernel_abi.specs.Devices.{DeviceData}
use Rattle.board_core.specs.declared.device_view.DeviceView.{DeviceView}

abbrev pub device_told : DeviceView → DeviceData
device_told v = record { kind = v.kind; base = v.base; count = v.count; queue = v.queue.items }
