mod Fresh
mod Opened
mod SampleOf3
mod SampleOf5
